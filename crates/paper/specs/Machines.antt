-- The two machines that the cache is compared with, and what is claimed of a state.
-- Assumes nothing.
use Rattle.std.specs.Prelude.{◌≡◌, Bool, false, not, ◌&&◌, ◌||◌, cond, ℕ, eqb, length, get_or, set, drop}
use mathlib.Core.List.{List, [], ◌∷◌, ◌++◌, map, Memᴰ}
use Rattle.std.proofs.Math.Option
use Rattle.std.proofs.Math.Option.{Option, none, some}
use Rattle.paper.specs.Keyed.{has, without}
use Rattle.paper.specs.KeyedLaws.{All}
use Rattle.paper.specs.Cache.{Hashing, AddressRow, BlockRow, Box, Call, about, before, Word, hit, miss, some_uncached, known}

-- Plain disk: "Each write replaces block a by the block lent to it. A flush does nothing"
abbrev pub replaced : {X : Type 0} → List X → Option ℕ → Option X → List X
replaced disk a none = disk
replaced disk none (some b) = disk
replaced disk (some a) (some b) = set disk a b

abbrev pub plain_next : {X : Type 0} → List X → Call X → List X
plain_next disk c = replaced disk (about c).address (about c).written

-- "A read or look answers block a."
abbrev pub plain_block : {X : Type 0} → X → List X → Call X → Option X
plain_block blank disk c = cond (about c).returns (Option.map (λ a. get_or disk a blank) (about c).address) none

-- Printed D-LRU: "It has two lists, empty at first, oldest first, of at most m addresses and d fingerprints. A request puts its address,
-- then its content's fingerprint, as newest in its list. One present already is moved; into a full list it comes after the oldest has left."
unfoldable pub put : {K : Type 0} (same : K → K → Bool) → ℕ → K → List K → List K
put same n k l =
    cond (has same (λ x. x) k l)
    (without same (λ x. x) k l ++ (k ∷ []))
    (cond (eqb (length l) n) (drop 1 l ++ (k ∷ [])) (l ++ (k ∷ [])))

pub record Printed (F : Type 0) : Type 0 where
  pub addresses : List ℕ
  pub fingerprints : List F

-- `content` gives the fingerprint of an address's content
unfoldable pub printed_next : {F : Type 0} (same : F → F → Bool) (m d : ℕ) (content : ℕ → F) → Printed F → ℕ → Printed F
printed_next same m d content p a = record { addresses = put eqb m a p.addresses; fingerprints = put same d (content a) p.fingerprints }

-- "It is a hit where the address and that fingerprint were both present before it."
unfoldable pub printed_hit : {F : Type 0} (same : F → F → Bool) (content : ℕ → F) → Printed F → ℕ → Bool
printed_hit same content p a = has eqb (λ x. x) a p.addresses && has same (λ x. x) (content a) p.fingerprints

-- "the blocks written are those lent to writes"
abbrev pub written_by : {X : Type 0} → Call X → List X
written_by c = before (about c).written []

-- a call that writes no block: a read, a look or a flush
abbrev pub NoWrite : {X : Type 0} → Call X → Type 0
NoWrite c = (about c).written ≡ none

-- "it is fed the reads' addresses, which reads are refused"; "Compared after each read: held addresses in order, cached fingerprints in order
-- and, unless it was refused, its hit or miss."
pub record Read : Type 0 where
  pub address : ℕ
  pub refused : Bool

pub record Compared (F : Type 0) : Type 0 where
  pub held : List ℕ
  pub cached : List F
  pub answer : Option Word

-- what a read of address a puts before a list, and no other call does
abbrev pub if_read : {X A : Type 0} → Call X → (ℕ → A) → List A → List A
if_read c f xs = cond (about c).reads (before (Option.map f (about c).address) xs) xs

abbrev pub seen_in : {F X : Type 0} → Box F X → Option Word → Compared F
seen_in s w = record { held = map (λ r. r.address) s.rows; cached = map (λ u. u.fingerprint) s.used; answer = w }

abbrev pub printed_in : {F : Type 0} → Printed F → Option Word → Compared F
printed_in p w = record { held = p.addresses; cached = p.fingerprints; answer = w }

-- what is compared after each read of a list; a refused read does nothing: "nor does a refused call in either machine"
unfoldable pub printed_trace : {F : Type 0} (same : F → F → Bool) (m d : ℕ) (content : ℕ → F) → Printed F → List Read → List (Compared F)
printed_trace same m d content p [] = []
printed_trace same m d content p (e ∷ es) =
    cond e.refused
    (printed_in p none ∷ printed_trace same m d content p es)
    (printed_in (printed_next same m d content p e.address) (some (cond (printed_hit same content p e.address) hit miss))
    ∷ printed_trace same m d content (printed_next same m d content p e.address) es)

module _ {F X : Type 0} (H : Hashing F X) where
  -- "an address's content is its block there", on the disk as it was at first; this is its fingerprint
  abbrev pub content_of : List X → ℕ → F
  content_of disk a = H.hash (get_or disk a H.blank)

  -- "A block is without an address if it is cached and no held row has its fingerprint."
  abbrev pub some_unknown : List (AddressRow F) → List (BlockRow F) → Bool
  some_unknown rows [] = false
  some_unknown rows (u ∷ us) = not (known H u.fingerprint rows) || some_unknown rows us

  -- "An address is without its block if it is held and its fingerprint isn't cached. .. That the two never occur together is the orphan law."
  abbrev pub OrphanLaw : Box F X → Type 0
  OrphanLaw s = (some_uncached H s.rows s.used && some_unknown s.rows s.used) ≡ false

  -- "each held row has the fingerprint of the plain disk's block at its address, and each used block row that of the block in its slot"
  abbrev pub TrueFingerprints : Box F X → List X → Type 0
  TrueFingerprints s plain =
      All (λ r. r.fingerprint ≡ H.hash (get_or plain r.address H.blank)) s.rows
      × All (λ u. u.fingerprint ≡ H.hash (get_or s.flash u.slot H.blank)) s.used

  -- The premise: no two different blocks of these share a fingerprint.
  abbrev pub NoTwoShare : List X → Type 0
  NoTwoShare blocks = (b c : X) → Memᴰ b blocks → Memᴰ c blocks → H.hash b ≡ H.hash c → b ≡ c
