-- What a save and a restore after it carry on: the bytes carry what the full flush left, after the restore with the counters of the state lent to it.
-- Assumes nothing.
use Rattle.std.specs.Prelude.{◌≡◌, true, List, ℕ, ◌^◌, ◌<◌, eqb, length}
use Rattle.std.proofs.Math.Path.{refl, sym, ap, subst}
use Rattle.std.proofs.Common.{◌∙◌, arith}
use borrow.Author.Tests.{eq-eqb, eqb-true, eqb-false}
use Rattle.tables.specs.Rows.{table_bytes}
use Rattle.paper.specs.KeyedLaws.{by-test}
use Rattle.paper.specs.Cache.{Numbers, Word}
use Rattle.paper.specs.Lent.{Lent, Ask, Answer, refused, answered, call, with_counters}
use Rattle.paper.specs.CallLaws.{In64, outcome}
use Rattle.paper.proofs.CallLaws.{counters-stay, served-passes}
use Rattle.parts.specs.Rep.{numbers_of}
use Rattle.refusals.specs.Given.{counters_of}
use Rattle.image.specs.Area.{put, clearing}
use Rattle.image.specs.Kinds.{lru_fields, kinds}
use Rattle.image.specs.Saved.{Saved, lru_saver, save_refusal, save, Restored, record_of}
use Rattle.image.proofs.SavedLaws.{save-is, save-keeps, given_back, restore-once}
use Rattle.image.proofs.BoxLaws.{lru-flush-0, lru-found, lru-saved, lru-back}
use Rattle.restoring.specs.Given.{box_of}
use Rattle.fields.specs.Fields.{state_bytes, record_in, counters_in, put_record, fitting}
use Rattle.fields.specs.FieldLaws.{length-put_record, record-put, counters-put}
use Rattle.fields.specs.Noted.{answer_number}
use Rattle.service.specs.Left.{lent_in}
use Rattle.service.specs.LeftWarm.{saved_in, leaves_save, restored_in, leaves_restore}
use Rattle.service.specs.Carried.{Carries, written, held_below, served-word, state-long}

-- ---- a save

-- what a served one leaves, and a refused one
module _ (s : List ℕ) (h : length s ≡ state_bytes) (l : List ℕ) (x : Saved Lent) where
  save-served : (w : Word) (f p : ℕ) → x.answer ≡ answered w f p → x.lent.n < 2 ^ 64 → In64 x.lent.counters
      → (let z = saved_in s l x in Carries z.state z.disk z.flash z.addresses z.blocks (numbers_of (record_in s)) x.lent)
  unfolding saved_in
  save-served w f p e bn bk = rw e (written s h x.lent bn bk)

  save-refused : (k : ℕ) (disk flash addresses blocks : List ℕ) → x.answer ≡ refused k → x.lent ≡ lent_in s disk flash addresses blocks
      → (let z = saved_in s l x in Carries z.state z.disk z.flash z.addresses z.blocks (numbers_of (record_in s)) x.lent)
  unfolding saved_in
  save-refused k disk flash addresses blocks e el =
      rw e (record { long = h; numbers = refl; lent = subst (λ (t : Lent). lent_in s t.disk t.flash t.addresses t.blocks ≡ t) (sym el) refl })

module _ (N : Numbers) (t : Lent) (area : List ℕ) where
  -- a served save answers as its flush
  save-answer : save_refusal (lru_saver N) t area ≡ 0
      → (let o = outcome N t (Ask.flush N.m) in (save (lru_saver N) t area).answer ≡ answered o.word o.flash_writes o.primary_writes)
  save-answer e = ap (λ (x : Saved Lent). x.answer) (save-is (lru_saver N) t area e) ∙ served-word N t (Ask.flush N.m) (lru-flush-0 N t area e).0

  -- and it returns 0 exactly where it is served
  pub save-returns : eqb (answer_number (save (lru_saver N) t area).answer) 0 ≡ eqb (save_refusal (lru_saver N) t area) 0
  save-returns =
      by-test (eqb (save_refusal (lru_saver N) t area) 0)
      (λ y. ap (λ (a : Answer). eqb (answer_number a) 0) (save-answer (eqb-true (save_refusal (lru_saver N) t area) 0 y)) ∙ sym y)
      (λ y. ap (λ (x : Saved Lent). eqb (answer_number x.answer) 0) (save-keeps (lru_saver N) t area (eqb-false (save_refusal (lru_saver N) t area) 0 y)))

module _ (s disk flash addresses blocks area l : List ℕ) (h : fitting 24 s l ≡ true) where
  -- after a save the bytes carry what the paper's left, served or refused
  pub carried-save : In64 (counters_of (counters_in s))
      → (let z = leaves_save s disk flash addresses blocks area l in Carries z.state z.disk z.flash z.addresses z.blocks (numbers_of (record_in s))
      (save (lru_saver (numbers_of (record_in s))) (lent_in s disk flash addresses blocks) area).lent)
  unfolding leaves_save
  carried-save b =
      let N = numbers_of (record_in s) in
      let t = lent_in s disk flash addresses blocks in
      let q = Ask.flush N.m in
      let x = save (lru_saver N) t area in
      rw h
      (by-test (eqb (save_refusal (lru_saver N) t area) 0)
      (λ y.
      let e = eqb-true (save_refusal (lru_saver N) t area) 0 y in
      let same : (call N t q).lent ≡ x.lent = sym (ap (λ (z : Saved Lent). z.lent) (save-is (lru_saver N) t area e)) in
      save-served s (state-long 24 s l h) l x _ _ _ (save-answer N t area e)
      (subst (λ (z : Lent). z.n < 2 ^ 64) same (held_below N t q (lru-flush-0 N t area e).0))
      (subst (λ (z : Lent). In64 z.counters) same (counters-stay N t q b)))
      (λ y.
      let k = save-keeps (lru_saver N) t area (eqb-false (save_refusal (lru_saver N) t area) 0 y) in
      save-refused s (state-long 24 s l h) l x _ disk flash addresses blocks (ap (λ (z : Saved Lent). z.answer) k) (ap (λ (z : Saved Lent). z.lent) k)))

-- ---- a restore after a save, lent a state s

module _ (N : Numbers) (t : Lent) (area : List ℕ) (e : save_refusal (lru_saver N) t area ≡ 0) (s : List ℕ) (h : length s ≡ state_bytes) where
  -- the box as the full flush left it
  abbrev pub flushed : Lent
  flushed = (lru_saver N).flushed t

  abbrev pub image : List ℕ
  image = (save (lru_saver N) t area).area

  -- it gives that box back and clears the image's header
  pub restore-leaves : (a b l : List ℕ) → length a ≡ table_bytes N.m → length b ≡ table_bytes N.d → length l ≡ 0
      → leaves_restore s image a b l ≡ restored_in s (given_back kinds (lru_fields N flushed) image)
  unfolding leaves_restore kinds
  restore-leaves a b l ea eb el =
      let p = (served-passes N t (Ask.flush N.m) (lru-flush-0 N t area e).0).lengths in
      rw (eq-eqb (length s) state_bytes h)
      (ap (restored_in s) (lru-back kinds refl N t area e a b l (ea ∙ sym p.addresses, eb ∙ sym p.blocks, el)))

  -- the bytes carry it, with the counters of the state
  pub carried-warm : Carries (put_record (box_of (record_of (lru_fields N flushed))) s) flushed.disk flushed.flash flushed.addresses flushed.blocks N
      (with_counters flushed (counters_of (counters_in s)))
  unfolding kinds
  carried-warm =
      let b = box_of (record_of (lru_fields N flushed)) in
      let l = (lru-found N t (lru-flush-0 N t area e).0).label in
      let v = (lru-saved N t area e kinds refl).fits.small in
      let v₁ = v.1.0 in
      let v₂ = v.1.1.0 in
      let v₃ = v.1.1.1.0 in
      let v₄ = v.1.1.1.1.0 in
      let v₅ = v.1.1.1.1.1.0 in
      let v₆ = v.1.1.1.1.1.1.0 in
      let r = record-put b s h l (omega arith) (omega arith) (omega arith) (omega arith) (omega arith) (omega arith) in
      let k = counters-put b s h l in
      record {
        long = length-put_record b s h l;
        numbers = ap numbers_of r;
        lent = λ i. record {
          n = (r i).held;
          disk = flushed.disk;
          flash = flushed.flash;
          addresses = flushed.addresses;
          blocks = flushed.blocks;
          counters = counters_of (k i);
        };
      }

-- "clears it": a second restore of the area gets 15
pub second-restore : (area s a b l : List ℕ) → length s ≡ state_bytes → (leaves_restore s (put area clearing) a b l).number ≡ 15
unfolding leaves_restore restored_in
second-restore area s a b l h =
    rw (eq-eqb (length s) state_bytes h) (ap (λ (x : Restored). x.number) (restore-once kinds area a b l))
