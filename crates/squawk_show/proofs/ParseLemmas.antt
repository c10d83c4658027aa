-- What calls below say of a text, over the bytes of the text, and what a command prepares.
use Rattle.std.proofs.Common.{◌≡◌, ◌⊎◌, inl, inr, subst, sym, List, ℕ, Result, Ok, Err, refl, ap, ◌∙◌, map}
use Rattle.std.specs.Prelude.{IfOk}
use Rattle.std.specs.Str.{chars}
use Rattle.squawk_events.specs.declared.error.FrontError.{FrontError}
use Rattle.squawk_lexer.specs.Cut.{tokens, token_ends}
use Rattle.squawk_lexer.specs.declared.token.Strings.{Strings}
use Rattle.squawk_show.specs.Command.{asks}
use Rattle.squawk_show.specs.Edge.{SourceView}
use Rattle.squawk_show.specs.Forms.{form_tree, parse_under}
use Rattle.squawk_show.specs.Made.{made}
use Rattle.squawk_show.specs.Run.{IsText, IsParsed, IsPrepared, IsSummarized, prepared_output, LeavesAreTokens, ChildrenAreStatements}
use Rattle.squawk_show.specs.declared.command.Command.TheVariants.{Make}
use Rattle.squawk_show.specs.declared.command.Form.{Form}
use Rattle.squawk_show.specs.declared.command.Form.TheVariants.{Report, Pieces, Quotes, Squeezed}
use Rattle.squawk_show.specs.declared.options.Reading.{Reading}
use Rattle.squawk_show.specs.declared.program.Prepared.{Prepared}
use Rattle.squawk_statements.specs.Children.{children}
use Rattle.squawk_statements.specs.declared.division.Division.{Division}
use Rattle.squawk_tree.specs.ParseOf.{parse_of, roles_of}
use Rattle.squawk_tree.specs.Parses.{ParsesText}
use Rattle.squawk_tree.specs.Steps.{leaves, ranges_through, root_children, root_child}
use Rattle.squawk_tree.specs.Tree.{Tree}

-- the tree of bytes that are a text
parsed : (reading : Reading) (bytes : List ℕ) (tree : Tree) → IsText bytes
    → ParsesText reading.strings reading.division bytes (Ok tree) → IsParsed reading bytes tree
unfolding parse_under LeavesAreTokens ChildrenAreStatements
parsed reading bytes tree valid parses = record {
  text = valid;
  parsed = parses.tree;
  leaves = parses.leaves;
  children = parses.children;
}

-- the tree that `parse_divided` returned for a text
pub text_parsed : (reading : Reading) (text : List ℕ) (result : Result Tree FrontError)
    → IsText text → ParsesText reading.strings reading.division text result
    → IfOk result (IsParsed reading text)
text_parsed reading text (Ok tree) valid parses = parsed reading text tree valid parses
text_parsed reading text (Err e) valid parses = tt

-- the tree that goes with a form other than `Clauses`
pub plain_form : (form : Form)
    → (form ≡ Report) ⊎ ((form ≡ Pieces) ⊎ ((form ≡ Quotes) ⊎ (form ≡ Squeezed)))
    → parse_under ≡ form_tree form
plain_form form (inl is) = subst (λ f. parse_under ≡ form_tree f) (sym is) refl
plain_form form (inr (inl is)) = subst (λ f. parse_under ≡ form_tree f) (sym is) refl
plain_form form (inr (inr (inl is))) = subst (λ f. parse_under ≡ form_tree f) (sym is) refl
plain_form form (inr (inr (inr is))) = subst (λ f. parse_under ≡ form_tree f) (sym is) refl

-- the tree that `parse_divided` returned for a text of these bytes
pub is_parsed : (reading : Reading) (bytes text : List ℕ) (tree : Tree)
    (result : Result Tree FrontError) → text ≡ bytes → result ≡ Ok tree → IsText bytes
    → ParsesText reading.strings reading.division text result → IsParsed reading bytes tree
is_parsed reading bytes text tree result same is valid parses = parsed reading bytes tree valid
    (subst (λ u. ParsesText reading.strings reading.division u (Ok tree)) same
    (subst (ParsesText reading.strings reading.division text) is parses))

-- a parse of a text has the tokens of the text
module _ (leaves_are : (strings : Strings) (division : Division) (text : List ℕ)
    → leaves (parse_of strings division text).steps
    ≡ ranges_through 0 (token_ends 0 (tokens strings (chars text))))
    (children_are : (strings : Strings) (division : Division) (text : List ℕ)
    → root_children (parse_of strings division text).steps
    ≡ map root_child (children division (roles_of (tokens strings (chars text))))) where
  -- the tree that is the parse of bytes that are a text
  pub is_parse : (reading : Reading) (text : List ℕ) (tree : Tree) → IsText text
      → tree ≡ parse_of reading.strings reading.division text → IsParsed reading text tree
  unfolding parse_under LeavesAreTokens ChildrenAreStatements
  is_parse reading text tree valid is = record {
    text = valid;
    parsed = is;
    leaves = ap (λ (t : Tree). leaves t.steps) is
        ∙ leaves_are reading.strings reading.division text;
    children = ap (λ (t : Tree). root_children t.steps) is
        ∙ children_are reading.strings reading.division text;
  }

-- what follows from a fact of a result holds of it
pub if_ok : {T E : Type 0} (P Q : T → Type 0) → ((t : T) → P t → Q t) → (r : Result T E)
    → IfOk r P → IfOk r Q
if_ok P Q next (Ok t) h = next t h
if_ok P Q next (Err e) h = tt

-- the summary of a made text is what `make` prepares, whatever the source
pub summary_prepared : (reading : Reading) (pieces : ℕ) (source : SourceView) (p : Prepared)
    → IsSummarized reading pieces p → IsPrepared (asks reading (Make pieces)) source source p
summary_prepared reading pieces source p h = record {
  output_of = (
    made pieces,
    refl,
    record { accepted = tt; parsed = h.parsed },
    ap (λ memory. prepared_output p.text.items memory p.parse) h.no_report ∙ h.summary,
  );
  balanced = h.balanced;
  end = tt;
}
