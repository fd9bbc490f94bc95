-- The engine's own blocks and fingerprints: B bytes, and SHA-256 over the office label and them.
-- Assumes nothing.
use Rattle.std.specs.Prelude.{◌≡◌, refl, List, [], ◌++◌, ℕ, length, take}
use Rattle.std.proofs.Common.{append_assoc, arith, length-append, take_at, length-take-le}
use mathlib.Core.HLevel.{Σ_prop_path}
use Rattle.std.proofs.Math.Nat.{ℕ_set}
use Rattle.hash.specs.Sha256.{sha256}
use Rattle.hash.proofs.SpecLaws.{sha256-length}
use Rattle.tables.specs.Rows.{zeros}
use Rattle.tables.specs.Find.{same}
use Rattle.tables.specs.ShiftLaws.{length-zeros}
pub use Rattle.tables.specs.FindLaws.{same_refl}
pub use Rattle.tables.specs.SoundLaws.{same_true as same→≡}
use Rattle.paper.specs.Cache.{Numbers, Hashing}

-- lists of n bytes
abbrev pub Fixed : ℕ → Type 0
Fixed n = (l : List ℕ) × (length l ≡ n)

pub fixed-≡ : {n : ℕ} (f g : Fixed n) → f.0 ≡ g.0 → f ≡ g
fixed-≡ {n} f g e = Σ_prop_path {B = λ (l : List ℕ). length l ≡ n} (λ l. ℕ_set (length l) n) {u = f} {v = g} e

-- the first n bytes, zeros where there are fewer
pub fit_length : (n : ℕ) (l : List ℕ) → length (take n (l ++ zeros n)) ≡ n
fit_length n l = length-take-le n (l ++ zeros n) (omega (arith, length-append l (zeros n), length-zeros n))

unfoldable pub fit : (n : ℕ) → List ℕ → Fixed n
fit n l = (take n (l ++ zeros n), fit_length n l)

pub fit-front : (n : ℕ) (f : Fixed n) (rest : List ℕ) → fit n (f.0 ++ rest) ≡ f
unfolding fit
fit-front n f rest = fixed-≡ (fit n (f.0 ++ rest)) f (rw (append_assoc f.0 rest (zeros n)) (take_at f.0 (rest ++ zeros n) n f.1))

-- U6: "The fingerprint becomes SHA-256 over a 64-byte office label followed by the block."
abbrev pub fingerprinting : (label : List ℕ) (B : ℕ) → Hashing (Fixed 32) (Fixed B)
fingerprinting label B =
    record {
      same = λ f g. same f.0 g.0;
      same→≡ = λ f g e. fixed-≡ f g (same→≡ f.0 g.0 e);
      same_refl = λ f. same_refl f.0;
      hash = λ x. (sha256 (label ++ x.0), sha256-length (label ++ x.0));
      blank = fit B [];
    }

-- the blocks and fingerprints of a box
abbrev pub labelled : (N : Numbers) → Hashing (Fixed 32) (Fixed N.B)
labelled N = fingerprinting N.label N.B

pub fingerprint-is : (N : Numbers) (x : Fixed N.B) → ((labelled N).hash x).0 ≡ sha256 (N.label ++ x.0)
fingerprint-is N x = refl

-- where fingerprints are only compared, the label and the size of blocks don't matter
abbrev pub comparing : Hashing (Fixed 32) (Fixed 0)
comparing = fingerprinting [] 0
