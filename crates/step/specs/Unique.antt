-- No fingerprint is used twice, as the index asks it of the bytes. Assumes nothing.
use Rattle.std.specs.Prelude.{◌≡◌, refl, true, not, List, [], ◌∷◌, ◌++◌, map, ℕ, is_none}
use Rattle.std.proofs.Common.{sym, ap, ◌∙◌}
use Rattle.tables.specs.Rows.{rows}
use Rattle.tables.specs.Find.{every, find_from, caches}
use Rattle.tables.specs.Index.{unique}
use Rattle.paper.specs.KeyedLaws.{Distinct}
use Rattle.paper.specs.Cache.{BlockRow}
use Rattle.paper.specs.Engine.{Fixed, comparing}
use Rattle.paper.specs.Layout.{Blocks}
use Rattle.parts.specs.TableLaws.{used_bytes, free_bytes, rows-blocks, fp-used, flag-used, flag-free, absent-is, used-has}
use Rattle.tables.specs.Records.{read_block}

-- no fingerprint is used twice
unique-used : (l : List (BlockRow (Fixed 32))) → Distinct comparing.same (λ u. u.fingerprint) l → every unique (map used_bytes l) ≡ true
unfolding every
unique-used [] ds = refl
unique-used (u ∷ l) ds =
    let e : is_none (find_from (caches (read_block (used_bytes u)).fingerprint) 0 (map used_bytes l)) ≡ true
    = absent-is (find_from (caches (read_block (used_bytes u)).fingerprint) 0 (map used_bytes l))
    ∙ ap not (used-has (read_block (used_bytes u)).fingerprint u.fingerprint (sym (fp-used u)) 0 l ∙ ds.0) in
    rw (flag-used u, e) (unique-used l ds.1)

unique-all : (free : List ℕ) (used : List (BlockRow (Fixed 32))) → Distinct comparing.same (λ u. u.fingerprint) used
    → every unique (map free_bytes free ++ map used_bytes used) ≡ true
unfolding every
unique-all [] used ds = unique-used used ds
unique-all (k ∷ free) used ds = rw (flag-free k) (unique-all free used ds)

pub unique-is : (d : ℕ) (bt : List ℕ) (free : List ℕ) (used : List (BlockRow (Fixed 32))) → Blocks d bt free used
    → Distinct comparing.same (λ u. u.fingerprint) used → every unique (rows d bt) ≡ true
unique-is d bt free used hb ds = ap (every unique) (rows-blocks d bt free used hb) ∙ unique-all free used ds
