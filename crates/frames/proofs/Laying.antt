-- The bytes of a frame, taken apart.
use Rattle.std.proofs.Common.{◌≡◌, ℕ, suc, ◌+◌, ◌-◌, ◌<◌, ◌≤◌, true, eqb, List, [], ◌∷◌, length, get_or, take, drop, Ok, Err, Result, sym, refl, ap, ◌∙◌, subst, add-zero, arith, get_or-drop, get_or-take, length-drop}
use Rattle.std.proofs.lemmas.Bool.{eq-eqb, eqb-true, cond-true}
use Rattle.std.proofs.lemmas.List.{take_rest}
use Rattle.std.specs.List.{IsSplitAt}
use Rattle.model.specs.declared.blocks.AcceptBlock.{AcceptBlock}
use Rattle.model.specs.declared.faults.Fault.{Fault}
use Rattle.model.specs.declared.faults.Fault.TheVariants.{LengthWrong}
use Rattle.frames.specs.declared.frame.Frame.{Frame}
use Rattle.frames.specs.declared.frame.Frame.TheVariants.{Accept as AcceptFrame, Map as MapFrame, Over as OverFrame, Enter as EnterFrame, DropAccept as DropAcceptFrame, DropMap as DropMapFrame, Look as LookFrame}
use Rattle.frames.specs.declared.frame.Kinds.{Kinds}
use Rattle.frames.specs.declared.kind.Kind.{Kind}
use Rattle.frames.specs.declared.kind.Kind.TheVariants.{Accept, Map, Over, Enter, DropAccept, DropMap, Look}
use Rattle.frames.specs.Codes.{code_of, kind_of}
use Rattle.frames.proofs.Bounds.{granted}
use Rattle.frames.specs.Frames.{word, known, size, laid, sized, frame_read, framed, word_read, look_read, accept_read, map_read, node_frame_read}

-- the bytes behind the first, as the code cuts them
abbrev pub behind : List ℕ → List ℕ
behind bs = take (length bs - 1) (drop 1 bs)

-- what a part of the right length says
sized_ok : {X : Type 0} (n : ℕ) (xs : List ℕ) (x y : X) → Ok y ≡ sized n xs x → (length xs ≡ n) × (y ≡ x)
sized_ok n xs x y e = let g = granted (eqb (length xs) n) (Ok x) LengthWrong y (sym e) in (eqb-true (length xs) n g.0, cc)

-- the same eight bytes at two places
words : (xs ys : List ℕ) (i j : ℕ) → ((k : ℕ) → k < 8 → get_or xs (i + k) 0 ≡ get_or ys (j + k) 0) → word xs i ≡ word ys j
words xs ys i j same =
    let a : get_or xs i 0 ≡ get_or ys j 0 = ap (λ z. get_or xs z 0) (sym (add-zero i)) ∙ same 0 (omega arith) ∙ ap (λ z. get_or ys z 0) (add-zero j) in
    let b = same 1 (omega arith) in
    let c = same 2 (omega arith) in
    let d = same 3 (omega arith) in
    let e = same 4 (omega arith) in
    let f = same 5 (omega arith) in
    let g = same 6 (omega arith) in
    let h = same 7 (omega arith) in
    omega arith

-- the numbers of a map block by its parts: an accept block's, the destination, and the base
module _ (node : ℕ) (xs block rest : List ℕ) (cut : IsSplitAt xs 16 block rest) (some : 1 ≤ length rest) where
  base_length : length (behind rest) + 17 ≡ length xs
  base_length = let e = ap length (take_rest rest 1) in let n = length-drop 1 rest in let l = cut.4 in omega arith

  pub map_wrong : (e : Fault) → Err e ≡ word_read (behind rest) → Err e ≡ map_read node xs
  map_wrong e p = let n = base_length in grind arith

  pub map_whole : (f : AcceptBlock) (v : ℕ) → Ok f ≡ accept_read node block → Ok v ≡ word_read (behind rest)
      → Ok (record { node = f.node; lo = f.lo; hi = f.hi; destination = get_or rest 0 0; base = v }) ≡ map_read node xs
  map_whole f v p q =
      let n = base_length in
      let a = sized_ok 16 block (record { node = node; lo = word block 0; hi = word block 8 }) f p in
      let b = sized_ok 8 (behind rest) (word (behind rest) 0) v q in
      let front : (i : ℕ) → i < 16 → get_or block i 0 ≡ get_or xs i 0 = λ i h. ap (λ z. get_or z i 0) cut.1 ∙ get_or-take 16 xs i 0 h in
      let later : (i : ℕ) → get_or rest i 0 ≡ get_or xs (16 + i) 0 = λ i. ap (λ z. get_or z i 0) cut.2 ∙ get_or-drop 16 xs i 0 in
      let last : (i : ℕ) → get_or (behind rest) (0 + i) 0 ≡ get_or xs (17 + i) 0 = λ i.
      let n : 16 + (1 + (0 + i)) ≡ 17 + i = omega arith in
      ap (λ z. get_or z (0 + i) 0) (take_rest rest 1) ∙ get_or-drop 1 rest (0 + i) 0 ∙ later (1 + (0 + i)) ∙ ap (λ z. get_or xs z 0) n
      in
      let lo : f.lo ≡ word xs 0 = ap (λ z. z.lo) a.1 ∙ words block xs 0 0 (λ i h. front (0 + i) (omega arith)) in
      let hi : f.hi ≡ word xs 8 = ap (λ z. z.hi) a.1 ∙ words block xs 8 8 (λ i h. front (8 + i) (omega arith)) in
      let base : v ≡ word xs 17 = b.1 ∙ words (behind rest) xs 0 17 (λ i h. last i) in
      let same = ap (λ z. z.node) a.1 in
      let destination : get_or rest 0 0 ≡ get_or xs 16 0 = later 0 in
      let whole : map_read node xs ≡ Ok (record { node = node; lo = word xs 0; hi = word xs 8; destination = get_or xs 16 0; base = word xs 17 }) =
      cond-true (eqb (length xs) 25) _ _ (eq-eqb (length xs) 25 (let l = b.0 in omega arith)) in
      cc

-- the length behind the kind and the node, and the whole length
sized_more : {X : Type 0} (k node m : ℕ) (xs : List ℕ) (x : X) → sized m xs x ≡ sized (suc (suc m)) (k ∷ node ∷ xs) x
sized_more k node m xs x = grind arith

framed-sized : {B : Type 0} (f : B → Frame) (m : ℕ) (xs : List ℕ) (b : B) → framed f (sized m xs b) ≡ sized m xs (f b)
framed-sized f m xs b = grind arith

-- the kind of a byte is the one that the byte stands for
decoded : (c : ℕ) (k : Kind) → kind_of c ≡ Ok k → code_of k ≡ c
decoded c k e = grind arith

-- a frame that names a node, by its kind
by_kind : (node : ℕ) (xs : List ℕ) (k : Kind) → (k ≡ Look → ⊥) → node_frame_read (code_of k) node xs ≡ sized (size (code_of k)) (code_of k ∷ node ∷ xs) (laid (code_of k) (code_of k ∷ node ∷ xs))
by_kind node xs Accept n = framed-sized AcceptFrame 16 xs _ ∙ sized_more 65 node 16 xs _
by_kind node xs Map n = framed-sized MapFrame 25 xs _ ∙ sized_more 77 node 25 xs _
by_kind node xs Over n = sized_more 79 node 1 xs (OverFrame node (get_or xs 0 0))
by_kind node xs Enter n = sized_more 69 node 0 xs (EnterFrame node)
by_kind node xs DropAccept n = framed-sized DropAcceptFrame 16 xs _ ∙ sized_more 97 node 16 xs _
by_kind node xs DropMap n = framed-sized DropMapFrame 25 xs _ ∙ sized_more 109 node 25 xs _
by_kind node xs Look n = absurd (n refl)

of_rest : (ks : Kinds) (c : ℕ) (rest : List ℕ) (k : Kind) (r : Result Frame Fault) → 1 ≤ length rest → kind_of c ≡ Ok k → true ≡ known ks (code_of k) → (k ≡ Look → ⊥)
    → r ≡ node_frame_read (code_of k) (get_or rest 0 0) (behind rest) → r ≡ frame_read ks (c ∷ rest)
of_rest ks c [] k r n d h l p = absurd (omega arith)
of_rest ks c (node ∷ xs) k r n d h l p =
    subst (λ z. r ≡ frame_read ks (z ∷ node ∷ xs)) (decoded c k d)
    (p ∙ ap (node_frame_read (code_of k) node) (take_rest (node ∷ xs) 1) ∙ by_kind node xs k l ∙ sym (cond-true (known ks (code_of k)) _ _ (sym h)))

pub node_frame : (ks : Kinds) (bs : List ℕ) (k : Kind) (r : Result Frame Fault) → 1 ≤ length (behind bs) → kind_of (get_or bs 0 0) ≡ Ok k → true ≡ known ks (code_of k) → (k ≡ Look → ⊥)
    → r ≡ node_frame_read (code_of k) (get_or (behind bs) 0 0) (behind (behind bs)) → r ≡ frame_read ks bs
node_frame ks [] k r n d h l p = absurd (omega arith)
node_frame ks (c ∷ rest) k r n d h l p =
    of_rest ks c rest k r (subst (λ z. 1 ≤ length z) (take_rest (c ∷ rest) 1) n) d h l
    (subst (λ z. r ≡ node_frame_read (code_of k) (get_or z 0 0) (behind z)) (take_rest (c ∷ rest) 1) p)

-- a look, which names no node
look_rest : (xs : List ℕ) (x : Frame) → sized 8 xs x ≡ sized 9 (76 ∷ xs) x
look_rest xs x = grind arith

pub look_frame : (ks : Kinds) (bs : List ℕ) (k : Kind) (r : Result Frame Fault) → 1 ≤ length bs → kind_of (get_or bs 0 0) ≡ Ok k → k ≡ Look → true ≡ known ks (code_of k) → r ≡ look_read (behind bs) → r ≡ frame_read ks bs
look_frame ks [] k r n d l h p = absurd (omega arith)
look_frame ks (c ∷ xs) k r n d l h p =
    let e : 76 ≡ c = ap code_of (sym l) ∙ decoded c k d in
    let w : true ≡ known ks 76 = h ∙ ap (λ z. known ks (code_of z)) l in
    subst (λ z. r ≡ frame_read ks (z ∷ xs)) e (p ∙ ap look_read (take_rest (c ∷ xs) 1) ∙ look_rest xs (LookFrame (word xs 0)) ∙ sym (cond-true (known ks 76) _ _ (sym w)))
