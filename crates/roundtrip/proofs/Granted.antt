-- Each line of a written text is granted by what the lines before it left.
use Rattle.std.proofs.Common.{◌≡◌, ℕ, ◌+◌, ◌-◌, ◌<◌, ◌≤◌, Bool, true, false, not, List, [], ◌∷◌, ◌++◌, length, Ok, refl, ap, ◌∙◌, arith}
use mathlib.Core.Option.{none, some}
use Rattle.std.specs.List.{AllByRecursion}
use Rattle.std.proofs.lemmas.Bool.{le-leb, lt-ltb, and_parts, or_parts, or_from, not-true, not_from_false, cond-true}
use Rattle.sets.specs.Members.{some_of}
use Rattle.model.specs.declared.blocks.AcceptBlock.{AcceptBlock}
use Rattle.model.specs.declared.blocks.MapBlock.{MapBlock}
use Rattle.model.specs.Names.{top}
use Rattle.model.specs.Nets.{Kept}
use Rattle.model.specs.Walks.{Bounded}
use Rattle.model.specs.Faults.{Refusal}
use Rattle.model.specs.Edits.{accept, map_to, over, enter, same_accept, same_map, asked, then, settled, net_questions, net_refusal, net_after, walks_bounded}
use Rattle.model.proofs.Bounds.{bound_walked, walked-asked}
use Rattle.blocks.specs.Apart.{apart}
use Rattle.frames.specs.declared.frame.Frame.{Frame}
use Rattle.frames.specs.declared.frame.Kinds.TheVariants.{Net}
use Rattle.frames.specs.Lines.{line_read}
use Rattle.loading.specs.Texts.{lines_of}
use Rattle.loading.specs.Loads.{edit_of, left_by, told_by, and_then, loaded}
use Rattle.loading.specs.Laws.{unbroken}
use Rattle.loading.proofs.Lines.{ended_line}
use Rattle.roundtrip.specs.Storing.{GoodAccept, GoodMap}

all_asked : (qs : List (Bool × Refusal)) → AllByRecursion (λ q. q.0 ≡ true) qs → asked qs ≡ none
all_asked [] h = refl
all_asked (q ∷ qs) h = cond-true q.0 (asked qs) (some q.1) h.0 ∙ all_asked qs h.1

-- an element of a list without repetition is not among those before it
module _ {Y : Type 0} (same : Y → Y → Bool) (swap : (y z : Y) → same y z ≡ same z y) where
  some_at : (p : Y → Bool) (ys : List Y) (y : Y) (zs : List Y) → some_of p (ys ++ y ∷ zs) ≡ false → p y ≡ false
  some_at p [] y zs e = (or_parts (p y) (some_of p zs) e).0
  some_at p (x ∷ ys) y zs e = some_at p ys y zs (or_parts (p x) (some_of p (ys ++ y ∷ zs)) e).1

  pub not_before : (ys : List Y) (y : Y) (zs : List Y) → apart same (ys ++ y ∷ zs) ≡ true → some_of (same y) ys ≡ false
  not_before [] y zs a = refl
  not_before (x ∷ ys) y zs a =
      let h = and_parts (not (some_of (same x) (ys ++ y ∷ zs))) (apart same (ys ++ y ∷ zs)) a in
      or_from (same y x) (some_of (same y) ys) (swap y x ∙ some_at (same x) ys y zs (not-true (some_of (same x) (ys ++ y ∷ zs)) h.0)) (not_before ys y zs h.1)

-- the questions of each edit
pub accept_granted : (k : Kept) (b : AcceptBlock) → GoodAccept b → some_of (same_accept b) k.accepts ≡ false → length k.accepts < 64 → net_refusal k (accept b) ≡ none
accept_granted k b g new room =
    let n = g.node_known in
    ap (λ o. then o none) (all_asked (net_questions k (accept b))
    (le-leb b.node 31 (omega arith), (le-leb b.lo b.hi g.rises, (not_from_false (some_of (same_accept b) k.accepts) new, (lt-ltb (length k.accepts) 64 room, tt)))))

pub map_granted : (k : Kept) (b : MapBlock) → GoodMap b → some_of (same_map b) k.maps ≡ false → length k.maps < 128 → Bounded (net_after k (map_to b)) → net_refusal k (map_to b) ≡ none
map_granted k b g new room bound =
    let n = g.node_known in
    ap (λ o. then o (walks_bounded (net_after k (map_to b)))) (all_asked (net_questions k (map_to b)) (
      le-leb b.node 31 (omega arith),
      (
        le-leb b.destination 32 g.destination_known,
        (
          le-leb b.lo b.hi g.rises,
          (
            lt-ltb (b.base + (b.hi - b.lo)) top g.target_fits,
            (not_from_false (some_of (same_map b) k.maps) new, (lt-ltb (length k.maps) 128 room, tt)),
          ),
        ),
      ),
    ))
    ∙ walked-asked (net_after k (map_to b)) (bound_walked (net_after k (map_to b)) bound)

pub over_granted : (k : Kept) (n d : ℕ) → n < 32 → d ≤ 32 → Bounded (net_after k (over n d)) → net_refusal k (over n d) ≡ none
over_granted k n d h i bound =
    ap (λ o. then o (walks_bounded (net_after k (over n d)))) (all_asked (net_questions k (over n d)) (le-leb n 31 (omega arith), (le-leb d 33 (omega arith), tt)))
    ∙ walked-asked (net_after k (over n d)) (bound_walked (net_after k (over n d)) bound)

pub enter_granted : (k : Kept) (n : ℕ) → n < 32 → net_refusal k (enter n) ≡ none
enter_granted k n h = ap (λ o. then o none) (all_asked (net_questions k (enter n)) (le-leb n 31 (omega arith), tt))

-- the first line of a text, where it is granted
pub line_granted : (i : ℕ) (k : Kept) (cs rest : List ℕ) (f : Frame) → unbroken cs ≡ true → line_read Net cs ≡ Ok f → net_refusal k (edit_of f) ≡ none
    → loaded i k (lines_of (cs ++ 10 ∷ rest)) ≡ loaded (i + 1) (net_after k (edit_of f)) (lines_of rest)
line_granted i k cs rest f u r g =
    ap (loaded i k) (ended_line cs rest u)
    ∙ ap (λ o. and_then (told_by i k o) (λ m. loaded (i + 1) m (lines_of rest))) r
    ∙ ap (λ o. and_then (left_by i (settled o (net_after k (edit_of f)) k)) (λ m. loaded (i + 1) m (lines_of rest))) g
