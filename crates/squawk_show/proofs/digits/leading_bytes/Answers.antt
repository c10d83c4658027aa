use Rattle.std.proofs.Common.{◌≡◌, [], ◌∷◌}
use Rattle.std.specs.Prelude.{decimal}
use Rattle.squawk_show.proofs.DigitLemmas.{decimal_one, decimal_two, decimal_three, decimal_four, take_digits}
use Rattle.squawk_show.proofs.digits.leading_bytes.Goals as goal

pub returns-then-n-lt10 : goal.returns-then-n-lt10
returns-then-n-lt10 c =
    let all = decimal_one c.args.n c.if-n-lt10.true in
    let a = c.digit.ensures in
    let e : decimal c.args.n ≡ c.digit.result ∷ [] = cc in
    take_digits c.args.n (c.digit.result ∷ []) (48 ∷ 48 ∷ 48 ∷ []) e

pub returns-then-n-lt100 : goal.returns-then-n-lt100
returns-then-n-lt100 c =
    let all = decimal_two c.args.n c.if-n-lt10.false c.if-n-lt100.true in
    let a = c.digit-then-n-lt100.ensures in
    let b = c.digit-then-n-lt100-2.ensures in
    let e : decimal c.args.n ≡ c.digit-then-n-lt100.result ∷ c.digit-then-n-lt100-2.result ∷ [] = cc
    in
    take_digits c.args.n (c.digit-then-n-lt100.result ∷ c.digit-then-n-lt100-2.result ∷ [])
    (48 ∷ 48 ∷ []) e

pub returns-then-n-lt1000 : goal.returns-then-n-lt1000
returns-then-n-lt1000 c =
    let all = decimal_three c.args.n c.if-n-lt100.false c.if-n-lt1000.true in
    let a = c.digit-then-n-lt1000.ensures in
    let b = c.digit-then-n-lt1000-2.ensures in
    let d = c.digit-then-n-lt1000-3.ensures in
    let e : decimal c.args.n ≡ c.digit-then-n-lt1000.result ∷ c.digit-then-n-lt1000-2.result
    ∷ c.digit-then-n-lt1000-3.result ∷ [] = cc in
    take_digits c.args.n (c.digit-then-n-lt1000.result ∷ c.digit-then-n-lt1000-2.result
    ∷ c.digit-then-n-lt1000-3.result ∷ []) (48 ∷ []) e

pub returns-else-n-lt1000 : goal.returns-else-n-lt1000
returns-else-n-lt1000 c =
    let all = decimal_four c.args.n c.if-n-lt1000.false c.requires in
    let a = c.digit-else-n-lt1000.ensures in
    let b = c.digit-else-n-lt1000-2.ensures in
    let d = c.digit-else-n-lt1000-3.ensures in
    let f = c.digit-else-n-lt1000-4.ensures in
    let e : decimal c.args.n ≡ c.digit-else-n-lt1000.result ∷ c.digit-else-n-lt1000-2.result
    ∷ c.digit-else-n-lt1000-3.result ∷ c.digit-else-n-lt1000-4.result ∷ [] = cc in
    take_digits c.args.n (c.digit-else-n-lt1000.result ∷ c.digit-else-n-lt1000-2.result
    ∷ c.digit-else-n-lt1000-3.result ∷ c.digit-else-n-lt1000-4.result ∷ []) [] e
