-- A flush and a look of a D-ARC box are the base's on its tables, and leave the lists as they are. Assumes nothing.
use Rattle.std.specs.Prelude.{◌≡◌, refl, true, false, ◌||◌, List, [], map, ℕ, ◌+◌, ◌*◌, ◌≤◌, ◌<◌, eqb, ltb, length, drop, get_or, Err}
use Rattle.std.proofs.Common.{sym, ap, ◌∙◌, subst, arith, eqb-true, ltb-false}
use Rattle.std.proofs.Math.Option.{Option, none}
use Rattle.std.proofs.lemmas.Bool.{not-false}
use Rattle.tables.specs.Find.{any}
use Rattle.tables.specs.Unsound.{nonzero, addresses_unsound, dirty_uncached}
use Rattle.tables.specs.Index.{Indexed}
use Rattle.counters.specs.declared.Counters as Code
use Rattle.paper.specs.KeyedLaws.{by-test, or-both, or-false-left, or-false-right}
use Rattle.paper.specs.Cache.{serve}
use Rattle.paper.specs.Engine.{labelled}
use Rattle.paper.specs.Lent as Lent
use Rattle.paper.specs.Lent.{Ask, calling, lent_block, wrong_buffers, wrong_block, other_length, refusal, call_of, served, call, After}
use Rattle.paper.proofs.RefusalLaws as Base
use Rattle.paper.proofs.RefusalLaws.{exactly}
use Rattle.arc.specs.Policy.{serve_by}
use Rattle.arc.specs.Arc.{Sizes, base_numbers, m_of}
use Rattle.arc.specs.ArcLent.{ArcLent, ArcAfter, ListRecord, words, total_of, list_record, list_bytes, misnamed, oversized, lists_unsound, top_uncached}
use Rattle.arc.specs.ArcLent.{unfit_arc, tops_in, wrong_arc_buffers, arc_refusal, arc_lent_of, arc_served, arc_call}
use Rattle.arc.specs.ArcDemand.{lists_of, box_of}
use Rattle.arc.proofs.ArcDemandLaws.{ArcPasses, found, served-is, arc-keeps}
use Rattle.arc.proofs.ArcExactlyLaws.{arc-exactly}
use Rattle.arc.proofs.ArcLentLaws.{length-words-in}
use Rattle.refusals.specs.Given.{counters_of, lent}
use Rattle.outcome.specs.declared.Outcome.{Outcome}
use Rattle.refusal.specs.declared.Refusal.{Refusal}
use Rattle.refusal.specs.Numbers.{code}
use Rattle.refusal.specs.Numbers as Refusals
use Rattle.policy.specs.declared.Answered.{Answered}
use Rattle.policy.specs.Contract.{told, called}
use Rattle.parts.specs.declared.BoxRecord.{BoxRecord}
use Rattle.parts.specs.Rep.{numbers_of}
use Rattle.arcrefusals.specs.declared.ArcRecord.{ArcRecord}
use Rattle.arcrefusals.specs.Given.{sizes_of, base_of, arc_lent}
use Rattle.arcrefusals.specs.OpeningLaws.{unfit-base}
use Rattle.arccalls.specs.Contract.{with_held, ArcTold, arc_told, arc_called}
use Rattle.arccalls.specs.ListLaws.{record-found, bytes-found}

-- where no number of the D-ARC box applies, none of the base's does
pub base-zero : (Z : Sizes) (t : ArcLent) (q : Ask) → arc_refusal Z t (calling q) ≡ 0 → refusal (base_numbers Z) t.base (calling q) ≡ 0
base-zero Z t q e =
    let b = t.base in
    let M = base_numbers Z in
    let x = (arc-exactly Z t q).gives-0.0 e in
    let y = x.1.1.1.1 in
    let two = x.1.1.0 in
    let wrong = wrong_block Z.B (lent_block q) in
    let right = or-false-left (wrong_buffers M b) (other_length t.lists (m_of Z * 4)) (or-false-left (wrong_arc_buffers Z t) wrong two) in
    let six = or-false-left (addresses_unsound Z.P (m_of Z) b.n b.addresses) (lists_unsound Z (box_of Z t).rows t.sizes t.lists) y.0 in
    let eight = or-false-left (dirty_uncached b.n Z.C b.addresses b.blocks)
    (top_uncached (labelled M) (box_of Z t) (tops_in t.sizes t.lists)) y.1.1.0 in
    (exactly M b q).gives-0.1 (
      unfit-base Z ∙ x.0,
      (
        x.1.0,
        (
          or-both (wrong_buffers M b) wrong right (or-false-right (wrong_arc_buffers Z t) wrong two),
          (x.1.1.1.0, (six, (y.1.0, (eight, (y.1.1.1.0, (y.1.1.1.1.0, tt)))))),
        ),
      ),
    )

-- what lists that pass 2 and 6 are known to be
pub record Read (Z : Sizes) (t : ArcLent) : Type 0 where
  pub long : length t.lists ≡ m_of Z * 4
  pub room : total_of t.sizes ≤ m_of Z
  pub after : any nonzero (drop (total_of t.sizes * 4) t.lists) ≡ false

pub passes-read : (Z : Sizes) (t : ArcLent) → ArcPasses Z t → Read Z t
unfolding lists_unsound oversized
passes-read Z t p =
    let r = t.sizes in
    let a = misnamed (map (λ x. x.address) (box_of Z t).rows) (words (total_of r) t.lists) in
    let b₁ = ltb (Z.C + Z.X) (r.t1 + r.t2 + r.b3) in
    let b₂ = ltb Z.C (r.b1 + r.b2) in
    let c = any nonzero (drop (total_of r * 4) t.lists) in
    let d = ltb Z.C r.p in
    let h = or-false-left ((a || (b₁ || b₂)) || c) d p.six in
    let b = or-false-right a (b₁ || b₂) (or-false-left (a || (b₁ || b₂)) c h) in
    let x = ltb-false (Z.C + Z.X) (r.t1 + r.t2 + r.b3) (or-false-left b₁ b₂ b) in
    let y = ltb-false Z.C (r.b1 + r.b2) (or-false-right b₁ b₂ b) in
    record {
      long = eqb-true (length t.lists) (m_of Z * 4) (not-false (eqb (length t.lists) (m_of Z * 4)) p.width);
      room = omega (arith, x, y);
      after = or-false-right (a || (b₁ || b₂)) c h;
    }

-- what the base's call leaves, with the lists
abbrev pub with_lists : After → ListRecord → List ℕ → ArcAfter
with_lists o r l = record { answer = o.answer; lent = record { base = o.lent; sizes = r; lists = l }; block = o.block; part = o.part }

-- a call that leaves the policy's state as it is
abbrev pub Keeps : Sizes → ArcLent → Ask → Type 0
Keeps Z t q = arc_served Z t q ≡ with_lists (served (base_numbers Z) t.base q) (list_record (lists_of t)) (list_bytes (m_of Z) (lists_of t))

pub flush-keeps : (Z : Sizes) (t : ArcLent) (k : ℕ) → Keeps Z t (Ask.flush k)
unfolding arc_served arc_lent_of served serve_by serve call_of
flush-keeps Z t k = refl

pub look-keeps : (Z : Sizes) (t : ArcLent) (a : ℕ) → Keeps Z t (Ask.look a)
unfolding arc_served arc_lent_of served serve_by serve call_of
look-keeps Z t a = refl

-- so its call is the base's on the tables, and the lists keep their bytes and sizes
pub call-base : (Z : Sizes) (t : ArcLent) (q : Ask) → arc_refusal Z t (calling q) ≡ 0 → Keeps Z t q → ((i : ℕ) → get_or t.lists i 0 < 256)
    → arc_call Z t q ≡ with_lists (call (base_numbers Z) t.base q) t.sizes t.lists
call-base Z t q e k b =
    let r = passes-read Z t (found Z t q e).passes in
    let n = record-found t.sizes (words (total_of t.sizes) t.lists) (length-words-in (total_of t.sizes) t.lists) in
    let l = bytes-found (m_of Z) t.sizes t.lists r.long r.room b r.after in
    let s = sym (Base.served-is (base_numbers Z) t.base q (base-zero Z t q e)) in
    served-is Z t q e ∙ k ∙ (λ i. with_lists (s i) (n i) (l i))

module _ (a : ArcRecord) (disk flash addresses blocks lists : List ℕ) (c : Code.Counters) (q : Ask) where
  abbrev Z : Sizes
  Z = sizes_of a

  abbrev t : ArcLent
  t = arc_lent a disk flash addresses blocks lists (counters_of c)

  -- a refused call
  pub arc-refused : (r : Refusal) → code r ≡ arc_refusal Z t (calling q) → (one : Option (List ℕ)) → one ≡ lent_block q
      → arc_told (record { answer = Err r; box_record = a; counters = c }) disk flash addresses blocks lists one ≡ arc_called a t q
  arc-refused r e one eo =
      let last = sym (arc-keeps Z t q (λ z. Refusals.refused r (e ∙ z))) in
      ◌∙◌ {A = ArcTold}
      (λ i. record { numbers = Z; after = record { answer = Lent.refused (e i); lent = t; block = eo i; part = [] } })
      (λ i. record { numbers = Z; after = last i })

  -- a call that isn't refused, from the base's on the base's record
  module _ (b : BoxRecord) (eb : b ≡ base_of a) where
    pub base-0 : arc_refusal Z t (calling q) ≡ 0 → refusal (numbers_of b) (lent b disk flash addresses blocks (counters_of c)) (calling q) ≡ 0
    base-0 e =
        subst (λ (x : BoxRecord). refusal (numbers_of x) (lent x disk flash addresses blocks (counters_of c)) (calling q) ≡ 0) (sym eb) (base-zero Z t q e)

    pub base_index : (heads : List ℕ) → Indexed a.sizes.cached blocks heads → Indexed b.slots blocks heads
    base_index heads h = subst (λ (x : BoxRecord). Indexed x.slots blocks heads) (sym eb) h

    pub arc-told : arc_refusal Z t (calling q) ≡ 0 → Keeps Z t q → ((i : ℕ) → get_or lists i 0 < 256) → (disk' flash' addresses' blocks' : List ℕ)
        (one : Option (List ℕ)) (o : Outcome Answered BoxRecord)
        → told o disk' flash' addresses' blocks' one ≡ called b (lent b disk flash addresses blocks (counters_of c)) q
        → (r : Outcome Answered ArcRecord) → r ≡ record { answer = o.answer; box_record = with_held a o.box_record.held; counters = o.counters }
        → arc_told r disk' flash' addresses' blocks' lists one ≡ arc_called a t q
    arc-told e k low disk' flash' addresses' blocks' one o eo r er =
        let last = sym (call-base Z t q e k low) in
        let x = eo ∙ ap (λ (y : BoxRecord). called y (lent y disk flash addresses blocks (counters_of c)) q) eb in
        ap (λ (y : Outcome Answered ArcRecord). arc_told y disk' flash' addresses' blocks' lists one) er
        ∙ ◌∙◌ {A = ArcTold}
        (λ i. record { numbers = Z; after = with_lists (x i).after t.sizes lists })
        (λ i. record { numbers = Z; after = last i })

-- a full flush: numbers that 11 refuses are refused with 11, whatever is asked
pub flush-full : (Z : Sizes) (t : ArcLent) (k : ℕ) → (unfit_arc Z ≡ false → k ≡ m_of Z) → arc_call Z t (Ask.flush k) ≡ arc_call Z t (Ask.flush (m_of Z))
flush-full Z t k h =
    by-test (unfit_arc Z)
    (λ u. refused-11 k u ∙ sym (refused-11 (m_of Z) u))
    (λ u. ap (λ n. arc_call Z t (Ask.flush n)) (h u))
  where
    refused-11 : (n : ℕ) → unfit_arc Z ≡ true → arc_call Z t (Ask.flush n) ≡ record { answer = Lent.refused 11; lent = t; block = none; part = [] }
    refused-11 n u =
        let e = (arc-exactly Z t (Ask.flush n)).gives-11.1 (tt, u) in
        arc-keeps Z t (Ask.flush n) (λ z. absurd (omega (arith, e, z)))
        ∙ (λ i. record { answer = Lent.refused (e i); lent = t; block = none; part = [] })

pub called-full : (a : ArcRecord) (t : ArcLent) (k : ℕ) → (unfit_arc (sizes_of a) ≡ false → k ≡ m_of (sizes_of a))
    → arc_called a t (Ask.flush k) ≡ arc_called a t (Ask.flush (m_of (sizes_of a)))
called-full a t k h = ap (λ (x : ArcAfter). record { numbers = sizes_of a; after = x }) (flush-full (sizes_of a) t k h)
