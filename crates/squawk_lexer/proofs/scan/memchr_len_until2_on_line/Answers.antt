use Rattle.std.proofs.Common.{◌≡◌, ℕ, ◌≤◌, ◌||◌, not, eqb, length, take, unwrap_or, refl, sym, ◌∙◌, ap}
use Rattle.std.proofs.lemmas.List.{length-take-le}
use Rattle.std.proofs.lemmas.List.Sums.{prefix_len-le-length}
use Rattle.std.specs.List.{prefix_len}
use Rattle.squawk_lexer.proofs.ByteRuns.{search_run}
use Rattle.squawk_lexer.proofs.StopSteps.{inside_run}
use Rattle.squawk_lexer.proofs.scan.memchr_len_until2_on_line.Goals as goal

pub returns : goal.returns
returns c =
    let bytes = c.args.bytes.now in
    let len = c.unwrap_or-len.result in
    let p = λ (x : ℕ). not ((eqb x c.args.a || eqb x c.args.b) || eqb x 10) in
    let q = λ (x : ℕ). not (eqb x 13) in
    let first : len ≡ prefix_len p bytes = c.unwrap_or-len.ensures
    ∙ search_run _ p (λ x. refl) bytes _ c.memchr3.ensures in
    let within : len ≤ length bytes = rw first (prefix_len-le-length p bytes) in
    let size : length (take len bytes) ≡ len = length-take-le len bytes within in
    let second : unwrap_or c.memchr.result (length (take len bytes))
    ≡ prefix_len q (take len bytes) = search_run _ q (λ x.
    refl) (take len bytes) _ c.memchr.ensures in
    inside_run c.args.a c.args.b bytes (take len bytes) len _ first refl (c.unwrap_or.ensures
    ∙ ap (unwrap_or c.memchr.result) (sym size) ∙ second)
