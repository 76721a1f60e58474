-- The search, node by node.
use Rattle.std.proofs.Common.{◌≡◌, ℕ, ◌+◌, ◌-◌, ◌<◌, List, [], ◌∷◌, map, length, set, Some, None, sym, ap, ◌∙◌, subst, arith}
use mathlib.Core.Option.{none, some}
use Rattle.std.proofs.lemmas.List.{take_more_set}
use Rattle.model.specs.Names.{top}
use Rattle.model.specs.Nets.{Kept, Spot, node}
use Rattle.model.specs.Walks.{overfull, least}
use Rattle.model.proofs.Bounds.{is_least}
use Rattle.blocks.specs.declared.destination.Destination.TheVariants.{Node}
use Rattle.walks.specs.Spans.{lifted}
use Rattle.quicksearch.specs.declared.memo.Target.{Target}
use Rattle.quicksearch.specs.Exceeding.{exceeds, FirstIn}
use Rattle.quicksearch.specs.Agendas.{spots, waiting, Room}
use Rattle.quicksearch.proofs.Exceeds.{exceeds-overfull}

-- a queue with a node alone
pub alone : (queue : List Target) (n : ℕ) → 0 < length queue → spots 0 (waiting 0 1 (set queue 0 (record { offset = 0; destination = Node n }))) ≡ node n 0 ∷ []
alone queue n l = ap (spots 0) (take_more_set queue 0 (record { offset = 0; destination = Node n }) l)

pub alone_room : (xs : List Spot) (n : ℕ) → xs ≡ node n 0 ∷ [] → Room (top - 1) xs
alone_room xs n e = subst (Room (top - 1)) (sym e) (omega arith, tt)

module _ (k : Kept) (n : ℕ) where
  at_0 : (d : ℕ) → exceeds k 64 (map (lifted d) (node n 0 ∷ [])) ≡ overfull k n d
  at_0 d = let e : 0 + d ≡ d = omega arith in ap (λ z. exceeds k 64 (node n z ∷ [])) e ∙ exceeds-overfull k n d

  pub none_here : (xs : List Spot) → xs ≡ node n 0 ∷ [] → FirstIn k 64 xs (top - 1) None → none ≡ least (overfull k n) top
  none_here xs e w = sym (is_least (overfull k n) top none (λ b l. sym (at_0 b) ∙ subst (λ z. FirstIn k 64 z (top - 1) None) e w b (omega arith)))

  pub first_here : (xs : List Spot) → xs ≡ node n 0 ∷ [] → (a : ℕ) → FirstIn k 64 xs (top - 1) (Some a) → some a ≡ least (overfull k n) top
  first_here xs e a w =
      let f = subst (λ z. FirstIn k 64 z (top - 1) (Some a)) e w in
      let l = f.0 in
      sym (is_least (overfull k n) top (some a) (record { under = omega arith; passes = sym (at_0 a) ∙ f.1; earlier = λ b h. sym (at_0 b) ∙ f.2 b h }))
