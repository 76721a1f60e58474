-- The frames that a net reads.
use Rattle.std.proofs.Common.{◌≡◌, ℕ, ◌%◌, Bool, true, false, cond, ◌&&◌, ◌||◌, eqb, ltb, List, length, get_or, Ok, refl, subst}
use Rattle.std.proofs.lemmas.Bool.{false≢true}
use Rattle.model.specs.declared.faults.Fault.TheVariants.{NotADigit, OddDigits, KindUnknown, LengthWrong}
use Rattle.frames.specs.declared.frame.Frame.TheVariants.{Accept, Map, Over, Enter, DropAccept, DropMap, Look}
use Rattle.frames.specs.declared.frame.Kinds.TheVariants.{Net}
use Rattle.frames.specs.Frames.{word, for_nets, size, accept_in, map_in, laid, frame_read}
use Rattle.frames.specs.Lines.{all_digits, bytes_of}
use Rattle.frames.proofs.Bounds.{granted}
use Rattle.loading.specs.Loads.{builds}
use Rattle.loading.specs.Laws.{NetsBuild}

laid-builds : (bs : List ℕ) (a m o e da dm : Bool) → (a || (m || (o || e))) ≡ true
    → builds (cond a (Accept (accept_in bs)) (cond m (Map (map_in bs)) (cond o (Over (get_or bs 1 0) (get_or bs 2 0)) (cond e (Enter (get_or bs 1 0)) (cond da (DropAccept (accept_in bs)) (cond dm (DropMap (map_in bs)) (Look (word bs 1)))))))) ≡ true
laid-builds bs true m o e da dm h = refl
laid-builds bs false true o e da dm h = refl
laid-builds bs false false true e da dm h = refl
laid-builds bs false false false true da dm h = refl
laid-builds bs false false false false da dm h = absurd (false≢true h)

pub nets_build : NetsBuild
nets_build cs f q =
    let bs = bytes_of cs in
    let k = get_or bs 0 0 in
    let whole = (granted (all_digits cs) _ NotADigit f q).1 in
    let even = (granted (eqb (length cs % 2) 0 && ltb 0 (length cs)) (frame_read Net bs) OddDigits f whole).1 in
    let kind = granted (for_nets k) _ KindUnknown f even in
    let size = (granted (eqb (length bs) (size k)) (Ok (laid k bs)) LengthWrong f kind.1).1 in
    let e : laid k bs ≡ f = cc in
    subst (λ g. builds g ≡ true) e (laid-builds bs (eqb k 0x41) (eqb k 0x4d) (eqb k 0x4f) (eqb k 0x45) (eqb k 0x61) (eqb k 0x6d) kind.0)
