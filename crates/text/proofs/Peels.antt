use Rattle.std.proofs.Common.{◌≡◌, ℕ, zero, suc, ◌+◌, ◌*◌, ◌<◌, ◌≤◌, Bool, true, false, cond, eqb, List, [], ◌∷◌, ◌++◌, length, take, drop, is_some, Some, None, Ok, Err, Option, Result, unwrap_or, sym, refl, ap, ◌∙◌, subst, add-zero, arith}
use Rattle.std.proofs.lemmas.Bool.{le-leb, and_from, cond-true, cond-false, eqb-true, false≢true}
use Rattle.std.proofs.lemmas.List.{append-nil, take-append-drop, drop-drop, drop_all, length-take, length-drop}
use Rattle.text.specs.declared.row.Layout.{Layout}
use Rattle.text.specs.declared.row.Layout.TheVariants.{Row, Address}
use Rattle.text.specs.declared.row.RowFault.{RowFault}
use Rattle.text.specs.declared.row.RowFault.TheVariants.{Length, NotADigit, NotASpace}
use Rattle.text.specs.Digits.{digit_value}
use Rattle.text.specs.Numbers.{and_then, read_on, number_of, spelled}
use Rattle.text.specs.Rows.{width, space_at, fault_at, or_else, faults_from, checked, number_at, record_in, given, row_text}
use Rattle.text.specs.Laws.{Fitting, RowFits, RowSpelledBack, AddressSpelledBack}
use Rattle.text.proofs.Backs.{read_written, no_space, field_small}

-- a line without a fault, taken apart from its front
both_ok : (a b : Result (Unit {0}) RowFault) → or_else a b ≡ Ok tt → (a ≡ Ok tt) × (b ≡ Ok tt)
both_ok (Ok _) b q = (refl, q)
both_ok (Err f) b q = let z : ◌≡◌ {A = ℕ} 0 1 = cc in absurd (omega arith)

held : (b : Bool) (f : RowFault) → ◌≡◌ {A = Result (Unit {0}) RowFault} (cond b (Ok tt) (Err f)) (Ok tt) → b ≡ true
held true f q = refl
held false f q = let z : ◌≡◌ {A = ℕ} 0 1 = cc in absurd (omega arith)

some_then : (o : Option ℕ) (f : ℕ → Option ℕ) → is_some o ≡ true → ((d : ℕ) → is_some (f d) ≡ true) → is_some (and_then o f) ≡ true
some_then None f e h = absurd (false≢true e)
some_then (Some d) f e h = h d

peel_digits : (l : Layout) (k i : ℕ) (cs : List ℕ) → k ≤ length cs → faults_from l i cs ≡ Ok tt → ((j : ℕ) → i ≤ j → j < i + k → space_at l j ≡ false)
    → ((m : ℕ) → is_some (read_on m (take k cs)) ≡ true) × (faults_from l (i + k) (drop k cs) ≡ Ok tt)
unfolding faults_from read_on
peel_digits l zero i cs h q s = (λ m. refl, ap (λ z. faults_from l z cs) (add-zero i) ∙ q)
peel_digits l (suc k) i [] h q s = absurd (omega arith)
peel_digits l (suc k) i (c ∷ cs) h q s =
    let b = both_ok (fault_at l i c) (faults_from l (i + 1) cs) q in
    let d = held (is_some (digit_value c)) (NotADigit (i + 1)) (sym (cond-false (space_at l i) _ _ (s i (omega arith) (omega arith))) ∙ b.0) in
    let r = peel_digits l k (i + 1) cs (omega arith) b.1 (λ j p t. s j (omega arith) (omega arith)) in
    let n : i + suc k ≡ i + 1 + k = omega arith in
    (λ m. some_then (digit_value c) (λ x. read_on (16 * m + x) (take k cs)) d (λ x. r.0 (16 * m + x)), ap (λ z. faults_from l z (drop k cs)) n ∙ r.1)

peel_space : (l : Layout) (i : ℕ) (cs : List ℕ) → 1 ≤ length cs → space_at l i ≡ true → faults_from l i cs ≡ Ok tt → (32 ∷ drop 1 cs ≡ cs) × (faults_from l (i + 1) (drop 1 cs) ≡ Ok tt)
unfolding faults_from
peel_space l i [] h s q = absurd (omega arith)
peel_space l i (c ∷ cs) h s q =
    let b = both_ok (fault_at l i c) (faults_from l (i + 1) cs) q in
    let e = eqb-true c 32 (held (eqb c 32) (NotASpace (i + 1)) (sym (cond-true (space_at l i) _ _ s) ∙ b.0)) in
    (ap (λ z. z ∷ cs) (sym e), b.1)

-- digits that are a number are its spelling
spelled_so : (xs : List ℕ) (k : ℕ) → length xs ≡ k → 1 ≤ k → k ≤ 16 → is_some (read_on 0 xs) ≡ true → spelled k (unwrap_or (number_of xs) 0) ≡ xs
spelled_so xs k n a b h = go (read_on 0 xs) refl h
  where
    whole : number_of xs ≡ read_on 0 xs
    whole = cond-true _ (read_on 0 xs) None (and_from _ _ (le-leb 1 (length xs) (omega arith)) (le-leb (length xs) 16 (omega arith)))

    go : (o : Option ℕ) → read_on 0 xs ≡ o → is_some o ≡ true → spelled k (unwrap_or (number_of xs) 0) ≡ xs
    go None e q = absurd (false≢true q)
    go (Some v) e q = ap (λ z. spelled k (unwrap_or z 0)) (whole ∙ e) ∙ ap (λ z. spelled z v) (sym n) ∙ read_written xs v (whole ∙ e)

part_digits : (l : Layout) (cs : List ℕ) (from k : ℕ) → from + k ≤ length cs → 1 ≤ k → k ≤ 16 → ((j : ℕ) → from ≤ j → j < from + k → space_at l j ≡ false)
    → faults_from l from (drop from cs) ≡ Ok tt → (spelled k (number_at cs from k) ++ drop (from + k) cs ≡ drop from cs) × (faults_from l (from + k) (drop (from + k) cs) ≡ Ok tt)
part_digits l cs from k h a b s q =
    let n = length-drop from cs in
    let t = length-take k (drop from cs) in
    let r = peel_digits l k from (drop from cs) (omega arith) q s in
    let w = spelled_so (take k (drop from cs)) k (omega arith) a b (r.0 0) in
    let d = drop-drop k from cs in
    (ap (λ z. z ++ drop (from + k) cs) w ∙ ap (λ z. take k (drop from cs) ++ z) (sym d) ∙ take-append-drop k (drop from cs), ap (faults_from l (from + k)) (sym d) ∙ r.1)

part_space : (l : Layout) (cs : List ℕ) (i : ℕ) → i < length cs → space_at l i ≡ true → faults_from l i (drop i cs) ≡ Ok tt → (32 ∷ drop (i + 1) cs ≡ drop i cs) × (faults_from l (i + 1) (drop (i + 1) cs) ≡ Ok tt)
part_space l cs i h s q =
    let n = length-drop i cs in
    let r = peel_space l i (drop i cs) (omega arith) s q in
    let d = drop-drop 1 i cs in
    (ap (λ z. 32 ∷ z) (sym d) ∙ r.0, ap (faults_from l (i + 1)) (sym d) ∙ r.1)

row_shape : (cs : List ℕ) → length cs ≡ 59 → faults_from Row 0 cs ≡ Ok tt → row_text (record_in cs) ≡ cs
row_shape cs n q =
    let a = part_digits Row cs 0 16 (omega arith) (omega arith) (omega arith) (λ j p t. no_space j (λ e. omega arith) (λ e. omega arith) (λ e. omega arith)) q in
    let s = part_space Row cs 16 (omega arith) refl a.1 in
    let b = part_digits Row cs 17 16 (omega arith) (omega arith) (omega arith) (λ j p t. no_space j (λ e. omega arith) (λ e. omega arith) (λ e. omega arith)) s.1 in
    let t = part_space Row cs 33 (omega arith) refl b.1 in
    let c = part_digits Row cs 34 8 (omega arith) (omega arith) (omega arith) (λ j p t. no_space j (λ e. omega arith) (λ e. omega arith) (λ e. omega arith)) t.1 in
    let u = part_space Row cs 42 (omega arith) refl c.1 in
    let d = part_digits Row cs 43 16 (omega arith) (omega arith) (omega arith) (λ j p t. no_space j (λ e. omega arith) (λ e. omega arith) (λ e. omega arith)) u.1 in
    let last = drop_all 59 cs (omega arith) in
    let A = spelled 16 (number_at cs 0 16) in
    let B = spelled 16 (number_at cs 17 16) in
    let C = spelled 8 (number_at cs 34 8) in
    let D = spelled 16 (number_at cs 43 16) in
    ap (λ z. A ++ (32 ∷ (B ++ (32 ∷ (C ++ (32 ∷ z)))))) (sym (append-nil D) ∙ ap (λ z. D ++ z) (sym last) ∙ d.0)
    ∙ ap (λ z. A ++ (32 ∷ (B ++ (32 ∷ (C ++ z))))) u.0
    ∙ ap (λ z. A ++ (32 ∷ (B ++ (32 ∷ z)))) c.0
    ∙ ap (λ z. A ++ (32 ∷ (B ++ z))) t.0
    ∙ ap (λ z. A ++ (32 ∷ z)) b.0
    ∙ ap (λ z. A ++ z) s.0
    ∙ a.0

address_shape : (cs : List ℕ) → length cs ≡ 16 → faults_from Address 0 cs ≡ Ok tt → spelled 16 (number_at cs 0 16) ≡ cs
address_shape cs n q =
    let a = part_digits Address cs 0 16 (omega arith) (omega arith) (omega arith) (λ j p t. refl) q in
    let A = spelled 16 (number_at cs 0 16) in
    sym (append-nil A) ∙ ap (λ z. A ++ z) (sym (drop_all 16 cs (omega arith))) ∙ a.0

-- what a check that passed says
given_ok : {X : Type 0} (o : Result (Unit {0}) RowFault) (x y : X) → given o x ≡ Ok y → (o ≡ Ok tt) × (x ≡ y)
given_ok (Ok _) x y e = (refl, cc)
given_ok (Err f) x y e = let z : ◌≡◌ {A = ℕ} 0 1 = cc in absurd (omega arith)

passed : (l : Layout) (cs : List ℕ) → checked l cs ≡ Ok tt → (length cs ≡ width l) × (faults_from l 0 cs ≡ Ok tt)
passed l cs e = go (eqb (length cs) (width l)) refl e
  where
    go : (b : Bool) → eqb (length cs) (width l) ≡ b → cond b (faults_from l 0 cs) (Err (Length (length cs))) ≡ Ok tt → (length cs ≡ width l) × (faults_from l 0 cs ≡ Ok tt)
    go true t q = (eqb-true (length cs) (width l) t, q)
    go false t q = let z : ◌≡◌ {A = ℕ} 0 1 = cc in absurd (omega arith)

pub row-spelled : RowSpelledBack
row-spelled cs r e =
    let g = given_ok (checked Row cs) (record_in cs) r e in
    let p = passed Row cs g.0 in
    ap row_text (sym g.1) ∙ row_shape cs p.0 p.1

pub address-spelled : AddressSpelledBack
address-spelled cs v e =
    let g = given_ok (checked Address cs) (number_at cs 0 16) v e in
    let p = passed Address cs g.0 in
    ap (spelled 16) (sym g.1) ∙ address_shape cs p.0 p.1

pub row_fits : RowFits
row_fits cs r e =
    let g = given_ok (checked Row cs) (record_in cs) r e in
    subst Fitting g.1 (field_small cs 0 16, field_small cs 17 16, field_small cs 34 8, field_small cs 43 16)
