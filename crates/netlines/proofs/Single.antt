-- One call served, and the one answer to it.
use Rattle.std.proofs.Common.{◌≡◌, ℕ, List, [], ◌∷◌, ◌++◌, length, refl, ap, subst, arith}
use Rattle.std.proofs.lemmas.List.{length-append}
use Rattle.model.specs.Model.{Model}
use Rattle.model.specs.Edits.{Edit}
use Rattle.serve.specs.declared.call.Call.{Call}
use Rattle.serve.specs.declared.call.Answer.{Answer}
use Rattle.serve.specs.Reference.{asked_of, reference}
use Rattle.serve.specs.Served.{Served, finished, answered, Right}

-- what one call gives
pub record One {E : Type 0} (meaning : E → Edit) (m : Model) (c : Call E) (rs : List Answer) (q : Model) : Type 0 where
  pub reply : Answer
  pub alone : rs ≡ reply ∷ []
  pub right : Right meaning m c reply
  pub left : q ≡ (reference m (asked_of meaning c)).1

last_served : {E : Type 0} (meaning : E → Edit) (m : Model) (rs : List Answer) (q : Model) → Served meaning m [] rs q → (rs ≡ []) × (q ≡ m)
last_served meaning m rs q (finished e) = (refl, refl)

one_of : {E : Type 0} (meaning : E → Edit) (m : Model) (c : Call E) (rs : List Answer) (q : Model) → Served meaning m (c ∷ []) rs q → One meaning m c rs q
one_of meaning m c rs q (answered {r} {rs = more} e right rest) =
    let p = last_served meaning (reference m (asked_of meaning c)).1 more q rest in
    record { reply = r; alone = ap (λ l. r ∷ l) p.0; right = right; left = p.1 }

pub one_served : {E : Type 0} (meaning : E → Edit) (m : Model) (c : Call E) (cs : List (Call E)) (rs : List Answer) (q : Model) → cs ≡ c ∷ [] → Served meaning m cs rs q → One meaning m c rs q
one_served {E} meaning m c cs rs q e s = one_of meaning m c rs q (subst (λ (xs : List (Call E)). Served meaning m xs rs q) e s)

-- what is popped of one answer is it
pub popped : (x y : Answer) (before : List Answer) → x ∷ [] ≡ before ++ y ∷ [] → x ≡ y
popped x y [] e = cc
popped x y (b ∷ bs) e = let n = ap length e in let l = length-append bs (y ∷ []) in absurd (omega arith)

pub not_empty : {A : Type 0} (x : A) (all : List A) (n : ℕ) → all ≡ x ∷ [] → n ≡ length all → n ≡ 0 → ⊥
not_empty x all n e l z = let k = ap length e in omega arith
