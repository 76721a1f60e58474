-- Tables cut into runs, one run after another, and what they give at each address.
use Rattle.std.proofs.Common.{◌≡◌, ℕ, ◌+◌, ◌-◌, ◌<◌, ◌≤◌, Bool, true, List, [], ◌∷◌, ◌++◌, map, sym, refl, ap, ◌∙◌, subst, inl, inr, append_assoc, arith}
use Rattle.std.proofs.lemmas.Bool.{cases_lt, cases_Bool, and_from, and_left, and_right, le-leb, lt-leb, cond-true, cond-false}
use Rattle.std.proofs.lemmas.List.{append-nil}
use Rattle.model.specs.declared.names.Name.{Name}
use Rattle.model.specs.declared.records.Record.{Record}
use Rattle.model.specs.Names.{top, raised, raise, SameSet}
use Rattle.model.specs.Nets.{within}
use Rattle.model.specs.Bottoms.{led, tabled}
use Rattle.flatten.specs.Runs.{Run, Rows, Cut, end, run, Flattened, once, name_of}
use Rattle.flatten.specs.Steps.{row, rows, closed}
use Rattle.flatten.proofs.Sets.{has, once-has, once-once, set_trans, set_is, set-raise}

-- every record has these ends
abbrev pub Ends : ℕ → ℕ → List Record → Type 0
Ends lo hi [] = Unit {0}
Ends lo hi (r ∷ rs) = (r.lo ≡ lo) × (r.hi ≡ hi) × Ends lo hi rs

-- the addresses from a up to, and without, `to`, cut into runs, and their records in order
pub data Table (list : ℕ → List Name) (to : ℕ) : ℕ → List Record → Type 0 where
  no_rows : {a : ℕ} {rs : List Record} → a ≡ to → rs ≡ [] → Table list to a rs
  run_rows : {a : ℕ} {rs : List Record} (hi : ℕ) (rows rest : List Record) → Run list a hi → Ends a hi rows → Rows list a hi rows → Table list to (hi + 1) rest → rs ≡ rows ++ rest → Table list to a rs

pub table_snoc : (list : ℕ → List Name) (b hi : ℕ) (news : List Record) → Run list b hi → Ends b hi news → Rows list b hi news → (a : ℕ) (rs : List Record) → Table list b a rs → Table list (hi + 1) a (rs ++ news)
table_snoc list b hi news r w o a rs (no_rows e z) =
    run_rows hi news [] (subst (λ t. Run list t hi) (sym e) r) (subst (λ t. Ends t hi news) (sym e) w) (subst (λ t. Rows list t hi news) (sym e) o) (no_rows refl refl)
    (ap (λ t. t ++ news) z ∙ sym (append-nil news))
table_snoc list b hi news r w o a rs (run_rows h rows rest s q p t e) =
    run_rows h rows (rest ++ news) s q p (table_snoc list b hi news r w o (h + 1) rest t) (ap (λ t. t ++ news) e ∙ append_assoc rows rest news)

table_cut : (list : ℕ → List Name) (a : ℕ) (rs : List Record) → Table list top a rs → Cut list a rs
table_cut list a rs (no_rows e z) = subst (λ t. Cut list t rs) (sym e) (subst (λ t. Cut list top t) (sym z) end)
table_cut list a rs (run_rows hi rows rest r w o t e) = subst (λ x. Cut list a x) (sym e) (run r o (table_cut list (hi + 1) rest t))

pub ends_rows : (lo hi : ℕ) (xs : List Name) → Ends lo hi (rows lo hi xs)
ends_rows lo hi [] = tt
ends_rows lo hi (x ∷ xs) = (refl, refl, ends_rows lo hi xs)

los_rows : (lo hi : ℕ) (xs : List Name) → map (λ (r : Record). r.lo) (rows lo hi xs) ≡ map (λ (_ : Record). lo) (rows lo hi xs)
los_rows lo hi [] = refl
los_rows lo hi (x ∷ xs) = ap (λ t. lo ∷ t) (los_rows lo hi xs)

his_rows : (lo hi : ℕ) (xs : List Name) → map (λ (r : Record). r.hi) (rows lo hi xs) ≡ map (λ (_ : Record). hi) (rows lo hi xs)
his_rows lo hi [] = refl
his_rows lo hi (x ∷ xs) = ap (λ t. hi ∷ t) (his_rows lo hi xs)

names_rows : (lo hi : ℕ) (xs : List Name) → map name_of (rows lo hi xs) ≡ xs
names_rows lo hi [] = refl
names_rows lo hi (x ∷ xs) = ap (λ t. x ∷ t) (names_rows lo hi xs)

pub rows_made : (list : ℕ → List Name) (lo hi : ℕ) (xs : List Name) → xs ≡ list lo → Rows list lo hi (rows lo hi (once xs))
rows_made list lo hi xs e = record {
  los = los_rows lo hi (once xs);
  his = his_rows lo hi (once xs);
  names = λ n. ap (has n) (names_rows lo hi (once xs)) ∙ once-has n xs ∙ ap (has n) e;
  single = ap once (names_rows lo hi (once xs)) ∙ once-once xs ∙ sym (names_rows lo hi (once xs));
}

pub closed-rows : (lo hi : ℕ) (xs : List Name) → map (closed hi) (rows lo lo xs) ≡ rows lo hi xs
closed-rows lo hi [] = refl
closed-rows lo hi (x ∷ xs) = ap (λ t. row lo hi x ∷ t) (closed-rows lo hi xs)

-- what a table gives
abbrev covers : ℕ → Record → Bool
covers a r = within r.lo r.hi a

gives_append : (a : ℕ) (rs ss : List Record) → tabled (rs ++ ss) a ≡ tabled rs a ++ tabled ss a
gives_append a [] ss = refl
gives_append a (r ∷ rs) ss =
    elim (cases_Bool (covers a r)) [
      | inl e ↦ cond-true (covers a r) (led r a ∷ tabled (rs ++ ss) a) (tabled (rs ++ ss) a) e ∙ ap (λ t. led r a ∷ t) (gives_append a rs ss)
          ∙ sym (ap (λ t. t ++ tabled ss a) (cond-true (covers a r) (led r a ∷ tabled rs a) (tabled rs a) e))
      | inr e ↦ cond-false (covers a r) (led r a ∷ tabled (rs ++ ss) a) (tabled (rs ++ ss) a) e ∙ gives_append a rs ss
          ∙ sym (ap (λ t. t ++ tabled ss a) (cond-false (covers a r) (led r a ∷ tabled rs a) (tabled rs a) e))
    ]

gives_in : (a lo hi : ℕ) (rs : List Record) → Ends lo hi rs → lo ≤ a → a ≤ hi → tabled rs a ≡ raise (a - lo) (map name_of rs)
gives_in a lo hi [] e l m = refl
gives_in a lo hi (r ∷ rs) e l m =
    let p = e.0 in
    let q = e.1 in
    let c : covers a r ≡ true = and_from _ _ (le-leb r.lo a (omega (arith, p))) (le-leb a r.hi (omega (arith, q))) in
    cond-true (covers a r) (led r a ∷ tabled rs a) (tabled rs a) c
    ∙ ap (λ t. raised (a - t) (name_of r) ∷ tabled rs a) p
    ∙ ap (λ t. raised (a - lo) (name_of r) ∷ t) (gives_in a lo hi rs e.2 l m)

gives_after : (a lo hi : ℕ) (rs : List Record) → Ends lo hi rs → hi < a → tabled rs a ≡ []
gives_after a lo hi [] e l = refl
gives_after a lo hi (r ∷ rs) e l =
    let q = e.1 in
    cond-false (covers a r) (led r a ∷ tabled rs a) (tabled rs a) (and_right _ _ (lt-leb a r.hi (omega (arith, q))))
    ∙ gives_after a lo hi rs e.2 l

gives_before : (a lo hi : ℕ) (rs : List Record) → Ends lo hi rs → a < lo → tabled rs a ≡ []
gives_before a lo hi [] e l = refl
gives_before a lo hi (r ∷ rs) e l =
    let p = e.0 in
    cond-false (covers a r) (led r a ∷ tabled rs a) (tabled rs a) (and_left _ _ (lt-leb r.lo a (omega (arith, p))))
    ∙ gives_before a lo hi rs e.2 l

gives_early : (list : ℕ → List Name) (to b : ℕ) (rs : List Record) → Table list to b rs → (a : ℕ) → a < b → tabled rs a ≡ []
gives_early list to b rs (no_rows e z) a l = ap (λ t. tabled t a) z
gives_early list to b rs (run_rows hi rows rest r w o t e) a l =
    let q = r.rises in
    ap (λ t. tabled t a) e ∙ gives_append a rows rest
    ∙ ap (λ x. x ++ tabled rest a) (gives_before a b hi rows w l)
    ∙ gives_early list to (hi + 1) rest t a (omega (arith, q))

table_tells : (list : ℕ → List Name) (to b : ℕ) (rs : List Record) → Table list to b rs → (a : ℕ) → b ≤ a → a < to → SameSet (tabled rs a) (list a)
table_tells list to b rs (no_rows e z) a l m = absurd (omega arith)
table_tells list to b rs (run_rows hi rows rest r w o t e) a l m =
    elim (cases_lt hi a) [
      | inl p ↦ set_trans (tabled rs a) (tabled rest a) (list a)
          (set_is _ _ (ap (λ t. tabled t a) e ∙ gives_append a rows rest ∙ ap (λ x. x ++ tabled rest a) (gives_after a b hi rows w p)))
          (table_tells list to (hi + 1) rest t a (omega arith) m)
      | inr p ↦ (let first : tabled rs a ≡ raise (a - b) (map name_of rows) =
          ap (λ t. tabled t a) e ∙ gives_append a rows rest ∙ ap (λ x. x ++ tabled rest a) (gives_in a b hi rows w l p)
          ∙ ap (λ x. raise (a - b) (map name_of rows) ++ x) (gives_early list to (hi + 1) rest t a (omega arith)) ∙ append-nil _ in
          set_trans (tabled rs a) (raise (a - b) (map name_of rows)) (list a) (set_is _ _ first)
          (set_trans (raise (a - b) (map name_of rows)) (raise (a - b) (list b)) (list a) (set-raise (a - b) (map name_of rows) (list b) o.names) (r.same a l p)))
    ]

pub flattened : (list : ℕ → List Name) (rs : List Record) → Table list top 0 rs → Flattened list rs
flattened list rs t = (table_cut list 0 rs t, λ a l. table_tells list top 0 rs t a (omega arith) l)
