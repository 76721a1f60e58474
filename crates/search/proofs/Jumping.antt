-- Jumping over the span of a walk passes no overfull name.
use Rattle.std.proofs.Common.{◌≡◌, ℕ, ◌+◌, ◌-◌, ◌<◌, ◌≤◌, not, List, [], ◌∷◌, sym, ap, arith}
use mathlib.Core.Option.{none, some}
use Rattle.model.specs.Names.{top}
use Rattle.model.specs.Nets.{Kept, node}
use Rattle.model.specs.Walks.{trace, finite, overfull, least}
use Rattle.model.proofs.Bounds.{is_least}
use Rattle.model.proofs.Firsts.{Clear, clear_more}
use Rattle.walks.specs.declared.notes.Note.{Note}
use Rattle.walks.specs.Noted.{Walked}

module _ (k : Kept) (n : ℕ) where
  pub jump : (a span : ℕ) (items : List Note) → Walked k n a items span → Clear k n a → Clear k n (a + (span + 1))
  jump a span items w low = clear_more k n a span low (λ d h. ap (λ o. not (finite o)) (w.alike d h))

  pub none_here : (a span : ℕ) (items : List Note) → Walked k n a items span → Clear k n a → top - 1 - a ≤ span → none ≡ least (overfull k n) top
  none_here a span items w low h = sym (is_least (overfull k n) top none (λ b l. jump a span items w low b (omega arith)))

  pub first_here : (a : ℕ) → a < top → Clear k n a → trace k 64 (node n a ∷ []) ≡ none → some a ≡ least (overfull k n) top
  first_here a l low e = sym (is_least (overfull k n) top (some a) (record { under = l; passes = ap (λ o. not (finite o)) e; earlier = low }))
