-- U9: hits told from a list of reads alone, by counting. Lists are oldest first.
-- Assumes nothing.
use Rattle.std.specs.Prelude.{◌≡◌, refl, Bool, not, ◌&&◌, cond, List, [], ◌∷◌, ◌++◌, map, ℕ, suc, eqb, ltb, get_or}
use Rattle.std.proofs.Math.Option.{Option, none, some}
use Rattle.paper.specs.Keyed.{has}
use Rattle.paper.specs.Cache.{Word, hit, miss}

module _ {K : Type 0} (same : K → K → Bool) where
  -- k is in the list
  abbrev pub occurs : K → List K → Bool
  occurs k l = has same (λ x. x) k l

  -- "since its last occurrence": what came after the last k. So all of it is other than k.
  abbrev pub since : K → List K → List K
  since k [] = []
  since k (x ∷ xs) = cond (same k x && not (occurs k xs)) xs (since k xs)

  -- "distinct": how many different ones are in a list. Each is counted once, where it occurs last.
  abbrev pub distinct : List K → ℕ
  distinct [] = 0
  distinct (x ∷ xs) = cond (occurs x xs) (distinct xs) (suc (distinct xs))

-- The two counts of a read of address a. The reads before it are `past`; `content` gives the fingerprint of an address's content.
-- "distinct other addresses since its last occurrence"
abbrev pub other_addresses : (past : List ℕ) (a : ℕ) → ℕ
other_addresses past a = distinct eqb (since eqb a past)

-- "distinct other contents, by fingerprint, since the last read of its own content", by whichever address
abbrev pub other_contents : {F : Type 0} (same : F → F → Bool) (content : ℕ → F) (past : List ℕ) (a : ℕ) → ℕ
other_contents same content past a = distinct same (since same (content a) (map content past))

-- "a read hits exactly when its address occurred before, with fewer than m distinct other addresses since its last occurrence, and with fewer than d
-- distinct other contents, by fingerprint, since the last read of its own content"
unfoldable pub tell_hit : {F : Type 0} (same : F → F → Bool) (m d : ℕ) (content : ℕ → F) (past : List ℕ) (a : ℕ) → Bool
tell_hit same m d content past a = occurs eqb a past && ltb (other_addresses past a) m && ltb (other_contents same content past a) d

-- the answers to a list of reads, after the reads `past`
unfoldable pub tell : {F : Type 0} (same : F → F → Bool) (m d : ℕ) (content : ℕ → F) (past : List ℕ) → List ℕ → List Word
tell same m d content past [] = []
tell same m d content past (a ∷ rest) = cond (tell_hit same m d content past a) hit miss ∷ tell same m d content (past ++ (a ∷ [])) rest

-- ---- worked, the contents being labels

-- a read as an examiner writes it down: its address; the two counts, `none` where the address, or the content, wasn't read before; hit or miss
pub record Row : Type 0 where
  pub address : ℕ
  pub addresses : Option ℕ
  pub contents : Option ℕ
  pub word : Word

abbrev row : ℕ → Option ℕ → Option ℕ → Word → Row
row a x y w = record { address = a; addresses = x; contents = y; word = w }

-- a list with its m and d, and the contents of addresses 0, 1, ..
pub record Worked : Type 0 where
  pub m : ℕ
  pub d : ℕ
  pub disk : List ℕ
  pub rows : List Row

abbrev counted : (disk : List ℕ) (past : List ℕ) → List Row → List (Option ℕ × Option ℕ)
counted disk past [] = []
counted disk past (r ∷ rs) = (
  cond (occurs eqb r.address past) (some (other_addresses past r.address)) none,
  cond (occurs eqb (get_or disk r.address 0) (map (λ a. get_or disk a 0) past)) (some (other_contents eqb (λ a. get_or disk a 0) past r.address)) none,
)
    ∷ counted disk (past ++ (r.address ∷ [])) rs

-- the counts and the answers written down are those of the definitions
abbrev Right : Worked → Type 0
Right l =
    (counted l.disk [] l.rows ≡ map (λ r. (r.addresses, r.contents)) l.rows)
    × (tell eqb l.m l.d (λ a. get_or l.disk a 0) [] (map (λ r. r.address) l.rows) ≡ map (λ r. r.word) l.rows)

-- each address has a content of its own; three addresses, two blocks: a block leaves before its address
abbrev pub own_contents : Worked
own_contents =
    record {
      m = 3;
      d = 2;
      disk = 0 ∷ 1 ∷ 2 ∷ 3 ∷ [];
      rows =
          row 1 none none miss
          ∷ row 2 none none miss
          ∷ row 1 (some 1) (some 1) hit
          ∷ row 3 none none miss
          ∷ row 2 (some 2) (some 2) miss
          ∷ row 2 (some 0) (some 0) hit
          ∷ [];
    }

-- fewer than m: the m-th other address is one too many; an address that comes twice in between is one
abbrev pub few_addresses : Worked
few_addresses =
    record {
      m = 2;
      d = 9;
      disk = 0 ∷ 1 ∷ 2 ∷ [];
      rows =
          row 0 none none miss
          ∷ row 1 none none miss
          ∷ row 1 (some 0) (some 0) hit
          ∷ row 0 (some 1) (some 1) hit
          ∷ row 1 (some 1) (some 1) hit
          ∷ row 2 none none miss
          ∷ row 0 (some 2) (some 2) miss
          ∷ [];
    }

-- addresses 1 and 2 have one content: contents are counted from its last read, by either address; a first read by address 2 is a miss all the same
abbrev pub shared_content : Worked
shared_content =
    record {
      m = 3;
      d = 1;
      disk = 0 ∷ 7 ∷ 7 ∷ 3 ∷ [];
      rows =
          row 1 none none miss
          ∷ row 2 none (some 0) miss
          ∷ row 1 (some 1) (some 0) hit
          ∷ row 3 none none miss
          ∷ row 2 (some 2) (some 1) miss
          ∷ row 1 (some 2) (some 0) hit
          ∷ [];
    }

pub worked-counts : Right own_contents × Right few_addresses × Right shared_content
unfolding tell tell_hit
worked-counts = ((refl, refl), (refl, refl), (refl, refl))
