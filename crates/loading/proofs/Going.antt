-- A load, line by line: what the lines that are left give is what the whole text gives.
use Rattle.std.proofs.Common.{◌≡◌, ℕ, ◌+◌, List, length, Ok, Err, Result, refl, sym, ap, ◌∙◌, ◌∷◌}
use Rattle.std.specs.Result.{MatchResult, IsErrAnd}
use Rattle.model.specs.declared.faults.Fault.{Fault}
use Rattle.model.specs.Faults.{Refusal, told}
use Rattle.model.specs.Nets.{Kept}
use Rattle.model.specs.Edits.{End, granted, refused, foreign}
use Rattle.table.specs.Settling.{Settles}
use Rattle.frames.specs.declared.frame.Frame.{Frame}
use Rattle.frames.specs.declared.frame.Kinds.TheVariants.{Net}
use Rattle.frames.specs.Lines.{line_read}
use Rattle.loading.specs.declared.fault.LoadFault.{LoadFault}
use Rattle.loading.specs.declared.fault.Part.TheVariants.{Net as of_net}
use Rattle.loading.specs.Texts.{lines_of}
use Rattle.loading.proofs.Lines.{none_left}
use Rattle.loading.specs.Loads.{Stop, edit_of, stop_of, left_by, told_by, line_loaded, and_then, loaded}

module _ (i : ℕ) (k : Kept) (cs line rest : List ℕ) (split : lines_of cs ≡ line ∷ lines_of rest) (goal : Result Kept Stop) (inv : loaded i k (lines_of cs) ≡ goal) where
  first_loaded : and_then (line_loaded i k line) (λ m. loaded (i + 1) m (lines_of rest)) ≡ goal
  first_loaded = sym (ap (loaded i k) split) ∙ inv

  pub load_on : (m : Kept) → line_loaded i k line ≡ Ok m → loaded (i + 1) m (lines_of rest) ≡ goal
  load_on m f = sym (ap (λ z. and_then z (λ m. loaded (i + 1) m (lines_of rest))) f) ∙ first_loaded

  pub load_stops : (x : Stop) → line_loaded i k line ≡ Err x → goal ≡ Err x
  load_stops x f = sym first_loaded ∙ ap (λ z. and_then z (λ m. loaded (i + 1) m (lines_of rest))) f

pub load_done : (i : ℕ) (k : Kept) (cs : List ℕ) (goal : Result Kept Stop) → length cs ≡ 0 → loaded i k (lines_of cs) ≡ goal → goal ≡ Ok k
load_done i k cs goal h inv = sym inv ∙ ap (loaded i k) (none_left cs h)

-- what `map_err` says of a value and of an error that came out of it
pub granted_by : {A E L : Type 0} (q : Result A E) (P : E → L → Type 0) (r : Result A L) (x : A) → MatchResult q (λ y. r ≡ Ok y) (λ e. IsErrAnd r (P e)) → r ≡ Ok x → q ≡ Ok x
granted_by (Ok y) P r x h w = cc
granted_by (Err e) P r x h w = let z = rw w at h in absurd z

pub refused_by : {A E L : Type 0} (q : Result A E) (P : E → L → Type 0) (r : Result A L) (l : L) → MatchResult q (λ x. r ≡ Ok x) (λ e. IsErrAnd r (P e)) → r ≡ Err l → (e : E) × (q ≡ Err e) × P e l
refused_by (Ok x) P r l h w = cc
refused_by (Err e) P r l h w = (e, refl, rw w at h)

-- an edit that the net refuses
left_refused : (i : ℕ) (x : End × Kept) (r : Refusal) → refused r ≡ x.0 → left_by i x ≡ Err (record { line = i; part = of_net; why = r })
left_refused i (refused q, k) r e = cc
left_refused i (granted, k) r e = cc
left_refused i (foreign, k) r e = cc

pub net_stops : (i : ℕ) (k m : Kept) (cs : List ℕ) (f : Frame) (e : Fault) (x : LoadFault) → line_read Net cs ≡ Ok f → Settles k m (edit_of f) (Err e) → x ≡ record { line = i; part = of_net; fault = e }
    → line_loaded i k cs ≡ Err (stop_of x)
net_stops i k m cs f e x p s q = ap (told_by i k) p ∙ left_refused i _ (told e) s.0 ∙ ap (λ z. Err (stop_of z)) (sym q)
