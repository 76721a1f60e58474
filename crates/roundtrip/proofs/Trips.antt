-- The round trip: enter, accept blocks, map blocks, overlays, each granted in its turn.
use Rattle.std.proofs.Common.{◌≡◌, ℕ, zero, suc, ◌+◌, ◌<◌, ◌≤◌, Bool, true, false, cond, leb, ◌⊎◌, List, [], ◌∷◌, ◌++◌, map, length, get_or, set, replicate, Some, None, Option, Ok, Result, sym, refl, ap, ◌∙◌, subst, inl, inr, arith}
use Rattle.std.specs.List.{AllByRecursion}
use Rattle.std.proofs.lemmas.List.{append_assoc, append-nil, length-append, length_push, length-map, length-take, set_at, get_or_at, get_or-replicate, get_or_past, length-replicate}
use Rattle.std.proofs.lemmas.Bool.{leb-true, leb-false, cases_lt}
use Rattle.lists.specs.Held.{held}
use Rattle.model.specs.declared.blocks.AcceptBlock.{AcceptBlock}
use Rattle.model.specs.declared.blocks.MapBlock.{MapBlock}
use Rattle.model.specs.Nets.{Kept, fresh}
use Rattle.model.specs.Walks.{Bounded}
use Rattle.model.specs.Edits.{same_accept, same_map, with_maps, with_overlays}
use Rattle.model.proofs.Bounds.{bound_walked, walked_bound}
use Rattle.model.proofs.Fewer.{less_bound, first_maps, some_overlays}
use Rattle.blocks.specs.declared.stored.Accepted.{Accepted}
use Rattle.blocks.specs.declared.stored.Mapped.{Mapped}
use Rattle.blocks.specs.declared.destination.Destination.{Destination}
use Rattle.blocks.specs.declared.destination.Destination.TheVariants.{Node, Below}
use Rattle.blocks.specs.Destinations.{overlay_number, OverlayKnown}
use Rattle.blocks.specs.Apart.{apart}
use Rattle.blocks.specs.Shape.{kept, accept_block, map_block}
use Rattle.blocks.proofs.Changes.{swap_accept, swap-map}
use Rattle.text.specs.Numbers.{spelled}
use Rattle.frames.specs.declared.frame.Frame.TheVariants.{Accept, Map, Over, Enter}
use Rattle.loading.specs.Texts.{lines_of}
use Rattle.loading.specs.Loads.{Stop, loaded}
use Rattle.loading.proofs.Lines.{no_line}
use Rattle.writing.specs.Texts.{accept_line, map_line, lines, overlay_lines, text_of}
use Rattle.roundtrip.specs.Storing.{GoodAccept, GoodMap, Storable}
use Rattle.roundtrip.specs.Laws.{TablesStorable, WrittenLoads, BytesReturn}
use Rattle.roundtrip.proofs.Framed.{enter_body, enter_ends, enter_unbroken, enter_reads, over_body, over_ends, over-unbroken, over_reads, accept_body, accept_ends, accept_unbroken, accept_reads, map_body, map_ends, map-unbroken, map_reads}
use Rattle.roundtrip.proofs.Granted.{not_before, accept_granted, map_granted, over_granted, enter_granted, line_granted}

all_at : {X : Type 0} (P : X → Type 0) (xs : List X) (x : X) (ys : List X) → AllByRecursion P (xs ++ x ∷ ys) → P x
all_at P [] x ys h = h.0
all_at P (z ∷ xs) x ys h = all_at P xs x ys h.1

-- overlays that are not set yet
none-set : (m n : ℕ) → ◌≡◌ {A = ℕ} (get_or (replicate m 33) n 33) 33
none-set m n = go (cases_lt n m)
  where
    go : (n < m) ⊎ (m ≤ n) → ◌≡◌ {A = ℕ} (get_or (replicate m 33) n 33) 33
    go (inl h) = get_or-replicate m n 33 33 h
    go (inr h) = let l = length-replicate {A = ℕ} m 33 in get_or_past (replicate m 33) n 33 (omega arith)

some-set : (ds es : List ℕ) (m n : ℕ) → (get_or (ds ++ replicate m 33) n 33 ≡ get_or (ds ++ es) n 33) ⊎ (get_or (ds ++ replicate m 33) n 33 ≡ 33)
some-set [] es m n = inr (none-set m n)
some-set (d ∷ ds) es m zero = inl refl
some-set (d ∷ ds) es m (suc n) = some-set ds es m n

module _ (k : Kept) (s : Storable k) where
  bounded : Bounded k
  bounded = walked_bound k s.walks_end

  -- what the lines of the first accept blocks, of the first map blocks, and of the first overlays leave
  abbrev with_first_accepts : List AcceptBlock → Kept
  with_first_accepts seen = record { group = k.group; accepts = seen; maps = []; overlays = replicate 32 33; entry = k.entry }

  abbrev with_first_maps : List MapBlock → Kept
  with_first_maps seen = with_overlays (with_maps k seen) (replicate 32 33)

  abbrev with_first_overlays : List ℕ → List ℕ → Kept
  with_first_overlays seen rest = with_overlays k (seen ++ replicate (length rest) 33)

  accepts_on : (seen rest : List AcceptBlock) → seen ++ rest ≡ k.accepts → (cs : List ℕ) (goal : Result Kept Stop) → ((i : ℕ) → loaded i (with_first_accepts k.accepts) (lines_of cs) ≡ goal)
      → (i : ℕ) → loaded i (with_first_accepts seen) (lines_of (lines accept_line rest ++ cs)) ≡ goal
  accepts_on seen [] e cs goal h i = ap (λ l. loaded i (with_first_accepts l) (lines_of cs)) (sym (append-nil seen) ∙ e) ∙ h i
  accepts_on seen (b ∷ rest) e cs goal h i =
      let g : GoodAccept b = all_at GoodAccept seen b rest (subst (λ l. AllByRecursion GoodAccept l) (sym e) s.good_accepts) in
      let new = not_before same_accept swap_accept seen b rest (ap (apart same_accept) e ∙ s.accepts_apart) in
      let count = length-append seen (b ∷ rest) in
      let all = ap length e in
      let few = s.few_accepts in
      ap (λ l. loaded i (with_first_accepts seen) (lines_of l)) (append_assoc (accept_line b) (lines accept_line rest) cs ∙ accept_ends b (lines accept_line rest ++ cs))
      ∙ line_granted i (with_first_accepts seen) (accept_body b) (lines accept_line rest ++ cs) (Accept b) (accept_unbroken b) (accept_reads b g)
      (accept_granted (with_first_accepts seen) b g new (omega arith))
      ∙ accepts_on (seen ++ b ∷ []) rest (append_assoc seen (b ∷ []) rest ∙ e) cs goal h (i + 1)

  maps_on : (seen rest : List MapBlock) → seen ++ rest ≡ k.maps → (cs : List ℕ) (goal : Result Kept Stop) → ((i : ℕ) → loaded i (with_first_maps k.maps) (lines_of cs) ≡ goal)
      → (i : ℕ) → loaded i (with_first_maps seen) (lines_of (lines map_line rest ++ cs)) ≡ goal
  maps_on seen [] e cs goal h i = ap (λ l. loaded i (with_first_maps l) (lines_of cs)) (sym (append-nil seen) ∙ e) ∙ h i
  maps_on seen (b ∷ rest) e cs goal h i =
      let g : GoodMap b = all_at GoodMap seen b rest (subst (λ l. AllByRecursion GoodMap l) (sym e) s.good_maps) in
      let new = not_before same_map swap-map seen b rest (ap (apart same_map) e ∙ s.maps_apart) in
      let next = append_assoc seen (b ∷ []) rest ∙ e in
      let count = length-append seen (b ∷ rest) in
      let all = ap length e in
      let few = s.few_maps in
      ap (λ l. loaded i (with_first_maps seen) (lines_of l)) (append_assoc (map_line b) (lines map_line rest) cs ∙ map_ends b (lines map_line rest ++ cs))
      ∙ line_granted i (with_first_maps seen) (map_body b) (lines map_line rest ++ cs) (Map b) (map-unbroken b) (map_reads b g)
      (map_granted (with_first_maps seen) b g new (omega arith)
      (less_bound (with_first_maps (seen ++ b ∷ [])) k (first_maps k (seen ++ b ∷ []) rest (sym next)) bounded))
      ∙ maps_on (seen ++ b ∷ []) rest next cs goal h (i + 1)

  overlays_on : (seen rest : List ℕ) → seen ++ rest ≡ k.overlays → (i : ℕ) → loaded i (with_first_overlays seen rest) (lines_of (overlay_lines (length seen) rest)) ≡ Ok k
  overlays_on seen [] e i = ap (loaded i (with_first_overlays seen [])) no_line ∙ ap (λ l. Ok (with_overlays k l)) e
  overlays_on seen (d ∷ rest) e i = go (overlays_on (seen ++ d ∷ []) rest (append_assoc seen (d ∷ []) rest ∙ e)) (leb d 32) refl
    where
      next : (seen ++ d ∷ []) ++ rest ≡ k.overlays
      next = append_assoc seen (d ∷ []) rest ∙ e

      known : d ≤ 33
      known = let h = s.overlays_known (length seen) in let p = get_or_at seen d rest 0 (length seen) refl in let q = ap (λ l. get_or l (length seen) 0) e in omega arith

      put : set (seen ++ replicate (length (d ∷ rest)) 33) (length seen) d ≡ (seen ++ d ∷ []) ++ replicate (length rest) 33
      put = set_at seen 33 (replicate (length rest) 33) d (length seen) refl ∙ sym (append_assoc seen (d ∷ []) (replicate (length rest) 33))

      On : Type 0
      On = (j : ℕ) → loaded j (with_first_overlays (seen ++ d ∷ []) rest) (lines_of (overlay_lines (length (seen ++ d ∷ [])) rest)) ≡ Ok k

      later : On → (j : ℕ) → loaded j (with_first_overlays (seen ++ d ∷ []) rest) (lines_of (overlay_lines (length seen + 1) rest)) ≡ Ok k
      later on j = ap (λ n. loaded j (with_first_overlays (seen ++ d ∷ []) rest) (lines_of (overlay_lines n rest))) (sym (length_push seen d)) ∙ on j

      go : On → (b : Bool) → leb d 32 ≡ b
          → loaded i (with_first_overlays seen (d ∷ rest)) (lines_of (cond b (spelled 2 0x4f ++ (spelled 2 (length seen) ++ (spelled 2 d ++ (10 ∷ [])))) [] ++ overlay_lines (length seen + 1) rest)) ≡ Ok k
      go on true t =
          let count = length-append seen (d ∷ rest) in
          let all = ap length e in
          let whole = s.all_nodes in
          let low = leb-true d 32 t in
          ap (λ l. loaded i (with_first_overlays seen (d ∷ rest)) (lines_of l)) (over_ends (length seen) d (overlay_lines (length seen + 1) rest))
          ∙ line_granted i (with_first_overlays seen (d ∷ rest)) (over_body (length seen) d) (overlay_lines (length seen + 1) rest) (Over (length seen) d)
          (over-unbroken (length seen) d) (over_reads (length seen) d (omega arith) (omega arith))
          (over_granted (with_first_overlays seen (d ∷ rest)) (length seen) d (omega arith) low
          (subst (λ l. Bounded (with_overlays k l)) (sym put)
          (less_bound (with_first_overlays (seen ++ d ∷ []) rest) k
          (some_overlays k ((seen ++ d ∷ []) ++ replicate (length rest) 33)
          (λ n. subst (λ l. (get_or ((seen ++ d ∷ []) ++ replicate (length rest) 33) n 33 ≡ get_or l n 33) ⊎ (get_or ((seen ++ d ∷ []) ++ replicate (length rest) 33) n 33 ≡ 33)) next
          (some-set (seen ++ d ∷ []) rest (length rest) n))) bounded)))
          ∙ ap (λ l. loaded (i + 1) (with_overlays k l) (lines_of (overlay_lines (length seen + 1) rest))) put
          ∙ later on (i + 1)
      go on false t =
          let high = leb-false d 32 t in
          let unset : 33 ≡ d = omega (arith, known) in
          ap (λ l. loaded i (with_overlays k l) (lines_of (overlay_lines (length seen + 1) rest)))
          (ap (λ c. seen ++ c ∷ replicate (length rest) 33) unset ∙ sym (append_assoc seen (d ∷ []) (replicate (length rest) 33)))
          ∙ later on i

  come_back : loaded 1 (fresh k.group) (lines_of (text_of k)) ≡ Ok k
  come_back =
      let h = s.entry_known in
      let after-maps = overlay_lines 0 k.overlays in
      let after-accepts = lines map_line k.maps ++ after-maps in
      let after-enter = lines accept_line k.accepts ++ after-accepts in
      ap (λ l. loaded 1 (fresh k.group) (lines_of l)) (enter_ends k.entry after-enter)
      ∙ line_granted 1 (fresh k.group) (enter_body k.entry) after-enter (Enter k.entry) (enter_unbroken k.entry) (enter_reads k.entry (omega arith))
      (enter_granted (fresh k.group) k.entry h)
      ∙ accepts_on [] k.accepts refl after-accepts (Ok k)
      (λ i. maps_on [] k.maps refl after-maps (Ok k)
      (λ j. subst (λ m. loaded j (with_overlays k (replicate m 33)) (lines_of after-maps) ≡ Ok k) s.all_nodes (overlays_on [] k.overlays refl j)) i) 2

pub written_loads : WrittenLoads
written_loads = come_back

pub bytes_return : BytesReturn
bytes_return k m s e = let q : m ≡ k = cc (come_back k s) in ap text_of q

-- every table can be stored
good_accepts : (xs : List Accepted) → AllByRecursion GoodAccept (map accept_block xs)
good_accepts [] = tt
good_accepts (x ∷ xs) = (record { node_known = x.valid.0; rises = x.valid.1; low = x.valid.2 }, good_accepts xs)

good_maps : (xs : List Mapped) → AllByRecursion GoodMap (map map_block xs)
good_maps [] = tt
good_maps (x ∷ xs) = (record { node_known = x.valid.0; destination_known = x.valid.1; rises = x.valid.2; low = x.valid.3; target_fits = x.valid.4 }, good_maps xs)

low_number : (o : Option Destination) → OverlayKnown o → overlay_number o ≤ 33
low_number None h = omega arith
low_number (Some Below) h = omega arith
low_number (Some (Node n)) h = let k : n < 32 = h n refl in omega arith

low_numbers : (os : List (Option Destination)) → ((k : ℕ) → OverlayKnown (get_or os k None)) → (n : ℕ) → get_or (map overlay_number os) n 0 ≤ 33
low_numbers [] h n = let e = get_or_past {X = ℕ} [] n 0 (omega arith) in omega arith
low_numbers (o ∷ os) h zero = low_number o (h 0)
low_numbers (o ∷ os) h (suc n) = low_numbers os (λ k. h (suc k)) n

pub tables_storable : TablesStorable
tables_storable t =
    let b = t.blocks in
    record {
      entry_known = b.valid.0;
      good_accepts = good_accepts (held b.accepts);
      good_maps = good_maps (held b.maps);
      accepts_apart = b.valid.2;
      maps_apart = b.valid.3;
      few_accepts = let e = length-map (held b.accepts) accept_block in let n = length-take b.accepts.len b.accepts.items in let h = b.accepts.ok in omega arith;
      few_maps = let e = length-map (held b.maps) map_block in let n = length-take b.maps.len b.maps.items in let h = b.maps.ok in omega arith;
      all_nodes = length-map b.overlays overlay_number ∙ b.valid.4;
      overlays_known = low_numbers b.overlays b.valid.1;
      walks_end = bound_walked (kept b) t.bounded;
    }
