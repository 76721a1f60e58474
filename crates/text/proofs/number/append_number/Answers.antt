use Rattle.std.proofs.Common.{◌≡◌, suc, ◌-◌, [], ◌∷◌, ◌++◌, string_bytes, ap, ◌∙◌, arith}
use Rattle.text.specs.Numbers.{spelled}
use Rattle.text.proofs.Spelling.{spelled_more}
use Rattle.text.proofs.number.append_number.Goals as goal

pub loop-place-preserved : goal.loop-place-preserved
loop-place-preserved c =
    let p = c.loop-place.place - 1 in
    let e : suc p ≡ c.loop-place.place = omega arith in
    let grown = c.append_char.ensures.0 ∙ ap (λ z. string_bytes c.loop-place.out ++ z ∷ []) c.digit_at.ensures in
    (spelled_more (string_bytes c.loop-place.out) _ _ p c.args.value grown (ap (λ z. string_bytes c.loop-place.out ++ spelled z c.args.value) e ∙ c.loop-place.invariant.0), omega arith, omega arith)
