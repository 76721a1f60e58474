-- Names in lists, and lists of names as sets.
use Rattle.std.proofs.Common.{◌≡◌, ℕ, suc, ◌+◌, ◌-◌, ◌<◌, ◌≤◌, Bool, true, false, ◌&&◌, ◌||◌, eqb, ltb, leb, List, [], ◌∷◌, length, sym, refl, ap, ◌∙◌, inl, inr, add-zero, add_assoc, arith}
use mathlib.Core.Bool.{and-false, and_assoc}
use Rattle.std.specs.List.{list_all}
use Rattle.std.proofs.lemmas.Bool.{true≢false, both_ways, eqb-true, leb-true, leb-false, eq-eqb, ne_eqb, and_from, and_right, and_parts, or_left, or_right, or_cases, cond-true, cond-false, lt-ltb, cases_Bool}
use Rattle.model.specs.declared.names.Name.{Name}
use Rattle.model.specs.Names.{top, raised, raise, same_name, holds, SameSet}
use Rattle.model.proofs.Gathering.{same_true, same_self}
use Rattle.flatten.specs.Runs.{once, every}
use Rattle.flatten.specs.Steps.{lowered, ups, downs}

abbrev pub nothing : Name
nothing = record { component = 0; address = 0 }

-- the same tests, the name first
abbrev pub same : Name → Name → Bool
same n x = same_name x n

abbrev pub has : Name → List Name → Bool
has n xs = holds xs n

-- no name lies past the top
abbrev pub Low : List Name → Type 0
Low xs = (n : Name) → has n xs ≡ true → n.address < top

pub iff_eq : (a b : Bool) → (a ≡ true → b ≡ true) → (b ≡ true → a ≡ true) → a ≡ b
iff_eq true b f g = sym (f refl)
iff_eq false true f g = g refl
iff_eq false false f g = refl

pub same_is : (m n : Name) → same m n ≡ true → m ≡ n
same_is m n h = sym (same_true n m h)

pub same_refl : (n : Name) → same n n ≡ true
same_refl n = same_self n

pub set_sym : (xs ys : List Name) → SameSet xs ys → SameSet ys xs
set_sym xs ys h n = sym (h n)

pub set_trans : (xs ys zs : List Name) → SameSet xs ys → SameSet ys zs → SameSet xs zs
set_trans xs ys zs h k n = h n ∙ k n

pub set_is : (xs ys : List Name) → xs ≡ ys → SameSet xs ys
set_is xs ys e n = ap (has n) e

same_up : (d : ℕ) (n x : Name) → same n (raised d x) ≡ (leb d n.address && same (lowered d n) x)
same_up d n x = elim (cases_Bool (leb d n.address)) [
  | inl e ↦ (let l : d ≤ n.address = leb-true _ _ e in
      let q : eqb (x.address + d) n.address ≡ eqb x.address (n.address - d) =
      iff_eq _ _ (λ t. let u = eqb-true (x.address + d) n.address t in eq-eqb _ _ (omega (arith, u)))
      (λ t. let u = eqb-true x.address (n.address - d) t in eq-eqb _ _ (omega (arith, u))) in
      ap (λ b. eqb x.component n.component && b) q ∙ sym (ap (λ b. b && same (lowered d n) x) e))
  | inr e ↦ (let l : n.address < d = leb-false _ _ e in
      and_right (eqb x.component n.component) _ (ne_eqb (x.address + d) n.address (λ t. omega (arith, t)))
      ∙ sym (ap (λ b. b && same (lowered d n) x) e))
]

spread : (b x y : Bool) → ((b && x) || (b && y)) ≡ (b && (x || y))
spread true x y = refl
spread false x y = refl

pub has-raise : (d : ℕ) (n : Name) (xs : List Name) → has n (raise d xs) ≡ (leb d n.address && has (lowered d n) xs)
has-raise d n [] = sym (and-false (leb d n.address))
has-raise d n (x ∷ xs) =
    ap (λ b. b || has n (raise d xs)) (same_up d n x)
    ∙ ap (λ b. (leb d n.address && same (lowered d n) x) || b) (has-raise d n xs)
    ∙ spread (leb d n.address) (same (lowered d n) x) (has (lowered d n) xs)

pub set-raise : (d : ℕ) (xs ys : List Name) → SameSet xs ys → SameSet (raise d xs) (raise d ys)
set-raise d xs ys h n =
    has-raise d n xs ∙ ap (λ b. leb d n.address && b) (h (lowered d n)) ∙ sym (has-raise d n ys)

pub raise-raise : (d e : ℕ) (xs : List Name) → raise e (raise d xs) ≡ raise (d + e) xs
raise-raise d e [] = refl
raise-raise d e (x ∷ xs) =
    ap (λ (t : ℕ). (let r : Name = record { component = x.component; address = t } in r) ∷ raise e (raise d xs)) (add_assoc x.address d e)
    ∙ ap (λ t. raised (d + e) x ∷ t) (raise-raise d e xs)

pub raise_zero : (xs : List Name) → raise 0 xs ≡ xs
raise_zero [] = refl
raise_zero (x ∷ xs) =
    ap (λ (t : ℕ). (let r : Name = record { component = x.component; address = t } in r) ∷ raise 0 xs) (add-zero x.address)
    ∙ ap (λ t. x ∷ t) (raise_zero xs)

pub length-raise : (d : ℕ) (xs : List Name) → length (raise d xs) ≡ length xs
length-raise d [] = refl
length-raise d (x ∷ xs) = ap suc (length-raise d xs)

pub ups-true : (d : ℕ) (ys xs : List Name) → ups d ys xs ≡ true → (n : Name) → has n (raise d xs) ≡ true → has n ys ≡ true
ups-true d ys [] h n m = absurd (true≢false (sym m))
ups-true d ys (x ∷ xs) h n m =
    let p = and_parts _ _ h in
    let q = and_parts (has (raised d x) ys) (ups d ys xs) p.1 in
    elim (or_cases (same n (raised d x)) (has n (raise d xs)) m) [
      | inl e ↦ ap (λ t. has t ys) (same_is n (raised d x) e) ∙ q.0
      | inr e ↦ ups-true d ys xs q.1 n e
    ]

pub downs-true : (d : ℕ) (xs ys : List Name) → downs d xs ys ≡ true → (n : Name) → has n ys ≡ true → has n (raise d xs) ≡ true
downs-true d xs [] h n m = absurd (true≢false (sym m))
downs-true d xs (y ∷ ys) h n m =
    let p = and_parts _ _ h in
    let q = and_parts (has (lowered d y) xs) (downs d xs ys) p.1 in
    elim (or_cases (same n y) (has n ys) m) [
      | inl e ↦ ap (λ t. has t (raise d xs)) (same_is n y e) ∙ has-raise d y xs ∙ and_from _ _ p.0 q.0
      | inr e ↦ downs-true d xs ys q.1 n e
    ]

pub ups_from : (d : ℕ) (ys xs : List Name) → Low ys → ((n : Name) → has n (raise d xs) ≡ true → has n ys ≡ true) → ups d ys xs ≡ true
ups_from d ys [] b h = refl
ups_from d ys (x ∷ xs) b h =
    let here : has (raised d x) ys ≡ true = h (raised d x) (or_left _ (has (raised d x) (raise d xs)) (same_refl (raised d x))) in
    and_from _ _ (lt-ltb (x.address + d) top (b (raised d x) here))
    (and_from _ _ here (ups_from d ys xs b (λ n m. h n (or_right (same n (raised d x)) _ m))))

pub downs_from : (d : ℕ) (xs ys : List Name) → ((n : Name) → has n ys ≡ true → has n (raise d xs) ≡ true) → downs d xs ys ≡ true
downs_from d xs [] h = refl
downs_from d xs (y ∷ ys) h =
    let here : has y (raise d xs) ≡ true = h y (or_left _ (has y ys) (same_refl y)) in
    let p = and_parts (leb d y.address) (has (lowered d y) xs) (sym (has-raise d y xs) ∙ here) in
    and_from _ _ p.0 (and_from _ _ p.1 (downs_from d xs ys (λ n m. h n (or_right (same n y) _ m))))

-- both tests say that the set goes on
pub goes_on : (d : ℕ) (xs ys : List Name) → ups d ys xs ≡ true → downs d xs ys ≡ true → SameSet ys (raise d xs)
goes_on d xs ys u v n = iff_eq _ _ (downs-true d xs ys v n) (ups-true d ys xs u n)

-- and one that fails says that it does not
pub stops_up : (d : ℕ) (xs ys : List Name) → Low ys → ups d ys xs ≡ false → SameSet ys (raise d xs) → ⊥
stops_up d xs ys b f h = both_ways (ups d ys xs) f (ups_from d ys xs b (λ n m. h n ∙ m))

pub stops_down : (d : ℕ) (xs ys : List Name) → downs d xs ys ≡ false → SameSet ys (raise d xs) → ⊥
stops_down d xs ys f h = both_ways (downs d xs ys) f (downs_from d xs ys (λ n m. sym (h n) ∙ m))

-- a list with each name once has the same names, and is itself so
pub once-has : (n : Name) (xs : List Name) → has n (once xs) ≡ has n xs
once-has n [] = refl
once-has n (x ∷ xs) = elim (cases_Bool (has x xs)) [
  | inl old ↦ ap (has n) (cond-true (has x xs) (once xs) (x ∷ once xs) old) ∙ once-has n xs
      ∙ elim (cases_Bool (same n x)) [
        | inl s ↦ ap (λ t. has t xs) (same_is n x s) ∙ old ∙ sym (or_left (same n x) (has n xs) s)
        | inr s ↦ sym (ap (λ b. b || has n xs) s)
      ]
  | inr new ↦ ap (has n) (cond-false (has x xs) (once xs) (x ∷ once xs) new) ∙ ap (λ b. same n x || b) (once-has n xs)
]

pub once-once : (xs : List Name) → once (once xs) ≡ once xs
once-once [] = refl
once-once (x ∷ xs) = elim (cases_Bool (has x xs)) [
  | inl old ↦ ap once (cond-true (has x xs) (once xs) (x ∷ once xs) old) ∙ once-once xs ∙ sym (cond-true (has x xs) (once xs) (x ∷ once xs) old)
  | inr new ↦ ap once (cond-false (has x xs) (once xs) (x ∷ once xs) new)
      ∙ cond-false (has x (once xs)) (once (once xs)) (x ∷ once (once xs)) (once-has x xs ∙ new)
      ∙ ap (λ t. x ∷ t) (once-once xs) ∙ sym (cond-false (has x xs) (once xs) (x ∷ once xs) new)
]

-- every name of one list is in the other
pub every_true : (ys xs : List Name) → every (holds ys) xs ≡ true → (n : Name) → has n xs ≡ true → has n ys ≡ true
every_true ys [] h n m = absurd (true≢false (sym m))
every_true ys (x ∷ xs) h n m =
    let p = and_parts (holds ys x) (every (holds ys) xs) h in
    elim (or_cases (same n x) (has n xs) m) [ inl e ↦ ap (λ t. has t ys) (same_is n x e) ∙ p.0 | inr e ↦ every_true ys xs p.1 n e ]

pub every_from : (ys xs : List Name) → ((n : Name) → has n xs ≡ true → has n ys ≡ true) → every (holds ys) xs ≡ true
every_from ys [] h = refl
every_from ys (x ∷ xs) h =
    and_from _ _ (h x (or_left _ (has x xs) (same_refl x))) (every_from ys xs (λ n m. h n (or_right (same n x) _ m)))

-- the tests of a whole list, as `all` makes them
pub every-all : (p : Name → Bool) (xs : List Name) → every p xs ≡ list_all p xs
every-all p [] = refl
every-all p (x ∷ xs) = ap (λ b. p x && b) (every-all p xs)

pub ups-all : (d : ℕ) (ys xs : List Name) → ups d ys xs ≡ list_all (λ x. ltb (x.address + d) top && holds ys (raised d x)) xs
ups-all d ys [] = refl
ups-all d ys (x ∷ xs) = ap (λ b. ltb (x.address + d) top && (holds ys (raised d x) && b)) (ups-all d ys xs) ∙ sym (and_assoc (ltb (x.address + d) top) (holds ys (raised d x)) _)

pub downs-all : (d : ℕ) (ys xs : List Name) → downs d ys xs ≡ list_all (λ x. leb d x.address && holds ys (lowered d x)) xs
downs-all d ys [] = refl
downs-all d ys (x ∷ xs) = ap (λ b. leb d x.address && (holds ys (lowered d x) && b)) (downs-all d ys xs) ∙ sym (and_assoc (leb d x.address) (holds ys (lowered d x)) _)
