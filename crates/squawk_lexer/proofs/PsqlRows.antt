-- Worked examples of psql commands, computed by their definition. Each name says what the text
-- shows.
use Rattle.std.proofs.Common.{◌≡◌, true, false, refl, codes}
use Rattle.squawk_lexer.specs.Kind.{lexeme_until}
use Rattle.squawk_lexer.specs.declared.token.TokenKind.TheVariants.{PsqlCommand, Semi, Colon}
use Rattle.squawk_lexer.specs.Psql.{psql}

pipe_after_options : psql (codes "\\g (fieldsep=')' |cat \\echo done")
    ≡ lexeme_until (PsqlCommand true) 32
pipe_after_options = refl

closed_double_quote : psql (codes "\\g (fieldsep=\")\" |cat \\echo done")
    ≡ lexeme_until (PsqlCommand true) 22
closed_double_quote = refl

empty_quote_keeps : psql (codes "\\g (a)'' |x\\y") ≡ lexeme_until (PsqlCommand true) 13
empty_quote_keeps = refl

empty_quote_after_letter : psql (codes "\\g (a'')) |x\\y") ≡ lexeme_until (PsqlCommand true) 14
empty_quote_after_letter = refl

pair_then_end : psql (codes "\\g (a\\) |x") ≡ lexeme_until (PsqlCommand true) 5
pair_then_end = refl

pair_gives_second : psql (codes "\\g ('\\)') |x\\y") ≡ lexeme_until (PsqlCommand true) 14
pair_gives_second = refl

pair_holds_quote : psql (codes "\\g ('\\'') |x'\\y") ≡ lexeme_until (PsqlCommand true) 15
pair_holds_quote = refl

double_then_parenthesis : psql (codes "\\g (\"\")\") |x\\y") ≡ lexeme_until (PsqlCommand true) 14
double_then_parenthesis = refl

double_last : psql (codes "\\g (\")\" |x\\y") ≡ lexeme_until (PsqlCommand true) 10
double_last = refl

backquote_takes_mark : psql (codes "\\g (`)` |x\\y") ≡ lexeme_until (PsqlCommand true) 10
backquote_takes_mark = refl

backquote_then_parenthesis : psql (codes "\\g (`a`) |x\\y") ≡ lexeme_until (PsqlCommand true) 13
backquote_then_parenthesis = refl

parenthesis_then_backquote : psql (codes "\\g ()`a` |x\\y") ≡ lexeme_until (PsqlCommand true) 11
parenthesis_then_backquote = refl

unclosed_options : psql (codes "\\gx (") ≡ lexeme_until (PsqlCommand true) 5
unclosed_options = refl

no_space : psql (codes "\\g(a) |x\\y") ≡ lexeme_until (PsqlCommand false) 8
no_space = refl

options_no_pipe : psql (codes "\\gx (a) file 'b\\c' \\x") ≡ lexeme_until (PsqlCommand true) 19
options_no_pipe = refl

second_argument : psql (codes "\\g (a b c) |x\\y") ≡ lexeme_until (PsqlCommand true) 15
second_argument = refl

parenthesis_alone : psql (codes "\\g ( ) |x\\y") ≡ lexeme_until (PsqlCommand true) 11
parenthesis_alone = refl

options_run_on : psql (codes "\\g (a b|c \\x") ≡ lexeme_until (PsqlCommand true) 10
options_run_on = refl

copy_line : psql (codes "\\COPY t \\x") ≡ lexeme_until (PsqlCommand false) 10
copy_line = refl

copy_mixed : psql (codes "\\cOpY t \\x\n;") ≡ lexeme_until (PsqlCommand false) 10
copy_mixed = refl

output_pipe : psql (codes "\\o |x\\y") ≡ lexeme_until (PsqlCommand false) 7
output_pipe = refl

output_file : psql (codes "\\o x|\\y") ≡ lexeme_until (PsqlCommand false) 5
output_file = refl

write_quote : psql (codes "\\w 'a\\'|b' \\y") ≡ lexeme_until (PsqlCommand false) 11
write_quote = refl

out_parenthesis : psql (codes "\\out (a) |x\\y") ≡ lexeme_until (PsqlCommand false) 11
out_parenthesis = refl

shell : psql (codes "\\! ls\\x") ≡ lexeme_until (PsqlCommand false) 7
shell = refl

shell_word : psql (codes "\\!ls\\x") ≡ lexeme_until (PsqlCommand false) 4
shell_word = refl

glued_pipe : psql (codes "\\g|cat \\x") ≡ lexeme_until (PsqlCommand false) 7
glued_pipe = refl

help : psql (codes "\\h select \\\\\n") ≡ lexeme_until (PsqlCommand false) 12
help = refl

echo : psql (codes "\\echo hello \\dt \\\\ select 1;") ≡ lexeme_until (PsqlCommand false) 12
echo = refl

file : psql (codes "\\w out.txt \\echo hi") ≡ lexeme_until (PsqlCommand false) 11
file = refl

unclosed_at_line_end : psql (codes "\\echo 'a\\\n;") ≡ lexeme_until (PsqlCommand false) 9
unclosed_at_line_end = refl

unclosed_at_end : psql (codes "\\echo 'a\\") ≡ lexeme_until (PsqlCommand false) 9
unclosed_at_end = refl

backslash_in_double : psql (codes "\\echo \"a\\\" \\x") ≡ lexeme_until (PsqlCommand false) 11
backslash_in_double = refl

backslash_in_backquote : psql (codes "\\echo `a\\` \\x") ≡ lexeme_until (PsqlCommand false) 11
backslash_in_backquote = refl

quote_at_line_end : psql (codes "\\echo \"a\r\nb\"") ≡ lexeme_until (PsqlCommand false) 8
quote_at_line_end = refl

quote_in_word : psql (codes "\\a'b c' \\x") ≡ lexeme_until (PsqlCommand false) 10
quote_in_word = refl

double_backslash : psql (codes "\\\\;") ≡ lexeme_until (PsqlCommand false) 2
double_backslash = refl

semicolon : psql (codes "\\;x") ≡ lexeme_until Semi 2
semicolon = refl

colon : psql (codes "\\:x") ≡ lexeme_until Colon 2
colon = refl

alone : psql (codes "\\") ≡ lexeme_until (PsqlCommand false) 1
alone = refl

alone_before_blank : psql (codes "\\ a \\b") ≡ lexeme_until (PsqlCommand false) 4
alone_before_blank = refl

reset : psql (codes "\\r\n") ≡ lexeme_until (PsqlCommand true) 2
reset = refl

capital_g : psql (codes "\\G (a) |x\\y") ≡ lexeme_until (PsqlCommand false) 9
capital_g = refl

sf_plus : psql (codes "\\sf+ a\\b") ≡ lexeme_until (PsqlCommand false) 8
sf_plus = refl

sf_other : psql (codes "\\sf- a\\b") ≡ lexeme_until (PsqlCommand false) 6
sf_other = refl

blanks_after : psql (codes "\\g (a) \t |x\\y") ≡ lexeme_until (PsqlCommand true) 13
blanks_after = refl

line_in_options : psql (codes "\\g (a\n) |x") ≡ lexeme_until (PsqlCommand true) 5
line_in_options = refl

marked_at_line_end : psql (codes "\\g (a)\n|x") ≡ lexeme_until (PsqlCommand true) 6
marked_at_line_end = refl

marked_before_backslash : psql (codes "\\g (a)\\x") ≡ lexeme_until (PsqlCommand true) 6
marked_before_backslash = refl

crosstabview : psql (codes "\\crosstabview a b\\gset") ≡ lexeme_until (PsqlCommand true) 17
crosstabview = refl
