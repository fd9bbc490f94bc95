-- A byte keeps a state that fits its buffers, so that what is written over them is read back. By the tests and the lengths of each part.
-- Assumes nothing.
use Rattle.std.specs.Prelude.{◌≡◌, Option, Some, None, ℕ, zero, suc, ◌+◌, ◌*◌, ◌≤◌, Bool, true, false, cond, ◌&&◌, ◌||◌, leb, List, [], ◌∷◌, ◌++◌, length, take, drop, replicate, ◌==◌, nat_le, nat_lt, refl}
use Rattle.std.proofs.Common.{sym, ap₂, ◌∙◌, subst, zero-mul, suc-mul, arith, length-append, take_at, length-take-le, eqb-true, leb-true, ltb-true, ltb-false, le-leb}
use Rattle.std.proofs.lemmas.List.{length-replicate}
use Rattle.std.proofs.lemmas.Bool.{eqb-false}
use Rattle.block.specs.Blocks.{splice}
use Rattle.block.specs.Laws.{length-splice}
use Rattle.table_laws.specs.Written.{fresh-addresses-length, fresh-blocks-length}
use Rattle.paper.specs.KeyedLaws.{by-test, and_left, and_right, or-false-left, or-false-right}
use Rattle.paper.specs.Cache.{Numbers, Word, hit, miss, same_block, new_block, from_cache, from_disk, done}
use Rattle.paper.specs.Lent.{Lent, Ask, calling, Answer, refused, answered, refusal, unfit, fresh}
use Rattle.paper.specs.LentLaws.{Lengths}
use Rattle.paper.proofs.RefusalLaws.{keeps}
use Rattle.paper.proofs.CallLaws as Calls
use Rattle.paper.proofs.CallLaws.{served-passes}
use Rattle.refusals.specs.Sizes.{most}
use Rattle.lines.specs.Lines.{parsed}
use Rattle.lines.specs.declared.Command.{Command}
use Rattle.lines.specs.declared.Command.TheVariants.{Box, Read, Look, Flush, Through, Back, Invalidate}
use Rattle.print.specs.Texts.{ask_text, word_text, counts_text, answer_text}
use Rattle.answers.specs.Replay.{Opening, large, box_refusal, box_numbers, start_disk, started, asked, doing}
use Rattle.print.specs.DecimalLaws.{decimal-length}
use Rattle.session.specs.Bytewise.{stage_number, State, Replied, first_line, later_line, end_line, keep, byte_in, at_end}
use Rattle.answers.specs.Done.{record_of}
use Rattle.session.specs.Memory.{Memory, Sized, Holds, lengths_fit, numbers_fit, fits, over, state_in, stored, fed, ended}
use Rattle.tables.specs.Rows.{table_bytes}

-- ---- a text put at the start of a buffer

take-splice : (n : ℕ) (t d : List ℕ) → length t ≡ n → take n (splice 0 t d) ≡ t
unfolding splice
take-splice n t d h = take_at t (drop (0 + length t) d) n h

-- ---- a line's text is at most 92 bytes

ask-short : (c : Option Command) → length (ask_text c) ≤ 23
unfolding ask_text
ask-short (Some (Read a)) = simp length-append (omega (arith, decimal-length a))
ask-short (Some (Look a)) = simp length-append (omega (arith, decimal-length a))
ask-short (Some Flush) = omega arith
ask-short (Some (Through a x)) = simp length-append (omega (arith, decimal-length a))
ask-short (Some (Back a x)) = simp length-append (omega (arith, decimal-length a))
ask-short (Some (Invalidate a x)) = simp length-append (omega (arith, decimal-length a))
ask-short (Some (Box b p m d)) = omega arith
ask-short None = omega arith

word-short : (w : Word) → length (word_text w) ≤ 7
unfolding word_text
word-short hit = omega arith
word-short miss = omega arith
word-short same_block = omega arith
word-short new_block = omega arith
word-short from_cache = omega arith
word-short from_disk = omega arith
word-short done = omega arith

counts-short : (f p : ℕ) → length (counts_text f p) ≤ 42
unfolding counts_text
counts-short f p = simp length-append (omega (arith, decimal-length f, decimal-length p))

answer-short : (k : ℕ) (c : Option Command) (a : Answer) → length (answer_text k c a) ≤ 92
unfolding answer_text
answer-short k c (refused r) = simp length-append (omega (arith, decimal-length k, decimal-length r))
answer-short k c (answered w f p) = simp length-append (omega (arith, decimal-length k, ask-short c, word-short w, counts-short f p))

-- ---- a box as it is opened

disk-length : (B P : ℕ) → length (start_disk B P) ≡ P * B
unfolding start_disk
disk-length B zero = sym (zero-mul B)
disk-length B (suc k) = length-append (start_disk B k) (replicate B k) ∙ ap₂ ◌+◌ (disk-length B k) (length-replicate B k) ∙ sym (suc-mul k B)

started-lengths : (N : Numbers) → Lengths N (started N)
unfolding started fresh
started-lengths N =
    record {
      disk = disk-length N.B N.P;
      flash = length-replicate (N.d * N.B) 0;
      addresses = fresh-addresses-length N.m;
      blocks = fresh-blocks-length N.d;
    }

-- ---- a later line keeps the lengths

doing-lengths : (N : Numbers) (t : Lent) (q : Option Ask) → Lengths N t → Lengths N (doing N t q).lent
unfolding doing
doing-lengths N t None h = h
doing-lengths N t (Some q) h =
    by-test (refusal N t (calling q) == 0)
    (λ e. (served-passes N t q (eqb-true (refusal N t (calling q)) 0 e)).lengths)
    (λ e. subst (Lengths N) (sym (keeps N t q (eqb-false (refusal N t (calling q)) 0 e)).lent) h)

-- ---- the numbers of an opened box

none-holds : (b : Bool) (k x : ℕ) → 1 ≤ k → cond b k x ≡ 0 → (b ≡ false) × (x ≡ 0)
none-holds true k x h e = absurd (omega arith)
none-holds false k x h e = (refl, e)

pub opened-fits : (c : Option Command) → box_refusal c ≡ 0 → Opening (box_numbers c) × Holds (record_of (box_numbers c) 0)
unfolding box_refusal large
opened-fits (Some (Box B P m d)) e =
    let N = box_numbers (Some (Box B P m d)) in
    let u = none-holds (unfit N) 1 (large N) (omega arith) e in
    let v = (none-holds (nat_lt 256 P || nat_lt 16384 (P * B) || nat_lt 16384 (d * B)) 5 0 (omega arith) u.1).0 in
    let w = or-false-left (nat_lt 256 P || nat_lt 16384 (P * B)) (nat_lt 16384 (d * B)) v in
    let n = most (record_of N 0) u.0 in (
      (u.0, rw (le-leb 1 m (Calls.fits N u.0).m-least, le-leb m m (omega arith)) refl),
      (
        n.size,
        ltb-false 256 P (or-false-left (nat_lt 256 P) (nat_lt 16384 (P * B)) w),
        n.rows,
        n.slots,
        ltb-false 16384 (P * B) (or-false-right (nat_lt 256 P) (nat_lt 16384 (P * B)) w),
        ltb-false 16384 (d * B) (or-false-right (nat_lt 256 P || nat_lt 16384 (P * B)) (nat_lt 16384 (d * B)) v),
      ),
    )
opened-fits (Some (Read a)) e = absurd (omega arith)
opened-fits (Some (Look a)) e = absurd (omega arith)
opened-fits (Some Flush) e = absurd (omega arith)
opened-fits (Some (Through a x)) e = absurd (omega arith)
opened-fits (Some (Back a x)) e = absurd (omega arith)
opened-fits (Some (Invalidate a x)) e = absurd (omega arith)
opened-fits None e = absurd (omega arith)

-- ---- a state that fits, and what a byte makes of it

record Fitted (s : State) : Type 0 where
  kept : length s.kept ≤ 33
  holds : Holds (record_of s.numbers s.lent.n)
  lengths : Lengths s.numbers s.lent

record Small (o : Replied) : Type 0 where
  state : Fitted o.state
  text : length o.text ≤ 92

first_small : (s : State) (c : Option Command) → Fitted s → Small (first_line s c)
unfolding first_line
first_small s c h =
    by-test (box_refusal c == 0)
    (λ e. rw e (record {
      state = record { kept = omega arith; holds = (opened-fits c (eqb-true (box_refusal c) 0 e)).1; lengths = started-lengths (box_numbers c) };
      text = omega arith;
    }))
    (λ e. rw e (record { state = record { kept = omega arith; holds = h.holds; lengths = h.lengths }; text = answer-short 0 c (refused (box_refusal c)) }))

later-small : (s : State) (c : Option Command) → Fitted s → Small (later_line s c)
unfolding later_line
later-small s c h =
    let o = doing s.numbers s.lent (asked s.numbers c) in
    record {
      state = record { kept = omega arith; holds = h.holds; lengths = doing-lengths s.numbers s.lent (asked s.numbers c) h.lengths };
      text = answer-short s.number c o.answer;
    }

end-small : (s : State) → Fitted s → Small (end_line s)
unfolding end_line
end-small s h =
    by-test (stage_number s.stage == 0)
    (λ e. rw e (first_small s (parsed s.kept) h))
    (λ e. rw e (by-test (stage_number s.stage == 1)
    (λ f. rw f (later-small s (parsed s.kept) h))
    (λ f. rw f (record { state = h; text = omega arith }))))

keep-fitted : (x : ℕ) (s : State) → Fitted s → Fitted (keep x s)
unfolding keep
keep-fitted x s h = record { kept = more; holds = h.holds; lengths = h.lengths }
  where
    more : length (cond (nat_lt (length s.kept) 33) (s.kept ++ (x ∷ [])) s.kept) ≤ 33
    more = by-test (nat_lt (length s.kept) 33) (λ e. rw (e, length-append) (omega (arith, ltb-true (length s.kept) 33 e))) (λ e. rw e h.kept)

byte_small : (x : ℕ) (s : State) → Fitted s → Small (byte_in x s)
unfolding byte_in
byte_small x s h = by-test (x == 10) (λ e. rw e (end-small s h)) (λ e. rw e (record { state = keep-fitted x s h; text = omega arith }))

-- ---- memory that fits, by its parts

six-tests : (a b c d e f : Bool) → (a && b && c && d && e && f) ≡ true → (a ≡ true) × (b ≡ true) × (c ≡ true) × (d ≡ true) × (e ≡ true) × (f ≡ true)
six-tests a b c d e f h =
    let h₅ = and_left (a && b && c && d && e) f h in
    let h₄ = and_left (a && b && c && d) e h₅ in
    let h₃ = and_left (a && b && c) d h₄ in
    let h₂ = and_left (a && b) c h₃ in (
      and_left a b h₂,
      and_right a b h₂,
      and_right (a && b) c h₃,
      and_right (a && b && c) d h₄,
      and_right (a && b && c && d) e h₅,
      and_right
          (a && b && c && d && e) f h,
    )

pub record Fitting (M : Memory) : Type 0 where
  pub line : length M.line ≡ 33
  pub sized : Sized M.buffers.disk M.buffers.flash M.buffers.addresses M.buffers.blocks
  pub out : length M.out ≡ 256
  pub holds : Holds M.session.box_record
  pub kept : M.session.kept ≤ 33

pub fitting : (M : Memory) → fits M ≡ true → Fitting M
unfolding fits lengths_fit numbers_fit
fitting M h =
    let l = length M.line in
    let d = length M.buffers.disk in
    let f = length M.buffers.flash in
    let a = length M.buffers.addresses in
    let t = length M.buffers.blocks in
    let o = length M.out in
    let b = M.session.box_record in
    let L = lengths_fit l d f a t o in
    let n = numbers_fit b in
    let k = leb M.session.kept 33 in
    let x = six-tests (l == 33) (d == 16384) (f == 16384) (a == table_bytes 1024) (t == table_bytes 256) (o == 256)
    (and_left L n (and_left (L && n) k h)) in
    let y = six-tests (nat_le b.size 4096) (nat_le b.blocks 256) (nat_le b.rows 1024) (nat_le b.slots 256) (nat_le (b.blocks * b.size) 16384)
    (nat_le (b.slots * b.size) 16384)
    (and_right L n (and_left (L && n) k h)) in
    record {
      line = eqb-true l 33 x.0;
      sized = (eqb-true d 16384 x.1, eqb-true f 16384 x.2, eqb-true a (table_bytes 1024) x.3, eqb-true t (table_bytes 256) x.4);
      out = eqb-true o 256 x.5;
      holds = (
        leb-true b.size 4096 y.0,
        leb-true b.blocks 256 y.1,
        leb-true b.rows 1024 y.2,
        leb-true b.slots 256 y.3,
        leb-true (b.blocks * b.size) 16384 y.4,
        leb-true (b.slots * b.size) 16384 y.5,
      );
      kept = leb-true M.session.kept 33 (and_right (L && n) k h);
    }

fitting-fits : (M : Memory) → Fitting M → fits M ≡ true
unfolding fits lengths_fit numbers_fit
fitting-fits M h =
    let s = h.sized in
    let n = h.holds in
    let b = M.session.box_record in
    rw (
      h.line,
      s.0,
      s.1,
      s.2,
      s.3,
      h.out,
      le-leb b.size 4096 n.0,
      le-leb b.blocks 256 n.1,
      le-leb b.rows 1024 n.2,
      le-leb b.slots 256 n.3,
      le-leb (b.blocks * b.size) 16384 n.4,
      le-leb (b.slots * b.size) 16384 n.5,
      le-leb M.session.kept 33 h.kept,
    )

-- ---- the way into memory and back

state-fitted : (M : Memory) → fits M ≡ true → Fitted (state_in M)
unfolding state_in
state-fitted M h =
    let g = fitting M h in
    let b = M.session.box_record in
    let B = M.buffers in
    record {
      kept = rw (length-take-le M.session.kept M.line (omega arith)) g.kept;
      holds = g.holds;
      lengths = record {
        disk = length-take-le (b.blocks * b.size) B.disk (omega arith);
        flash = length-take-le (b.slots * b.size) B.flash (omega arith);
        addresses = length-take-le (table_bytes b.rows) B.addresses (omega arith);
        blocks = length-take-le (table_bytes b.slots) B.blocks (omega arith);
      };
    }

stored_back : (M : Memory) (o : Replied) → Fitted o.state → state_in (stored M o).memory ≡ o.state
unfolding state_in stored over
stored_back M o h =
    let s = o.state in
    let t = s.lent in
    let N = s.numbers in
    let l = h.lengths in
    rw (
      take-splice (length s.kept) s.kept M.line refl,
      take-splice (N.P * N.B) t.disk M.buffers.disk l.disk,
      take-splice (N.d * N.B) t.flash M.buffers.flash l.flash,
      take-splice (table_bytes N.m) t.addresses M.buffers.addresses l.addresses,
      take-splice (table_bytes N.d) t.blocks M.buffers.blocks l.blocks,
    )

stored-fits : (M : Memory) (o : Replied) → fits M ≡ true → Small o → fits (stored M o).memory ≡ true
unfolding stored over
stored-fits M o h q =
    let g = fitting M h in
    let z = g.sized in
    let f = q.state in
    let t = o.state.lent in
    let B = M.buffers in
    fitting-fits (stored M o).memory
    (record {
      line = length-splice 0 o.state.kept M.line (omega arith) ∙ g.line;
      sized = (
        length-splice 0 t.disk B.disk (omega arith) ∙ z.0,
        length-splice 0 t.flash B.flash (omega arith) ∙ z.1,
        length-splice 0 t.addresses B.addresses (omega arith) ∙ z.2,
        length-splice 0 t.blocks B.blocks (omega arith) ∙ z.3,
      );
      out = length-splice 0 o.text M.out (omega arith) ∙ g.out;
      holds = f.holds;
      kept = f.kept;
    })

stored-text : (M : Memory) (o : Replied) → take (stored M o).filled (stored M o).memory.out ≡ o.text
unfolding stored
stored-text M o = take-splice (length o.text) o.text M.out refl

-- ---- a byte, and the end

module _ (M : Memory) (h : fits M ≡ true) where
  pub fed-state : (x : ℕ) → state_in (fed x M).memory ≡ (byte_in x (state_in M)).state
  unfolding fed
  fed-state x = rw h (stored_back M (byte_in x (state_in M)) (byte_small x (state_in M) (state-fitted M h)).state)

  pub fed-fits : (x : ℕ) → fits (fed x M).memory ≡ true
  unfolding fed
  fed-fits x = rw h (stored-fits M (byte_in x (state_in M)) h (byte_small x (state_in M) (state-fitted M h)))

  pub fed-text : (x : ℕ) → take (fed x M).filled (fed x M).memory.out ≡ (byte_in x (state_in M)).text
  unfolding fed
  fed-text x = rw h (stored-text M (byte_in x (state_in M)))

  pub ended-text : take (ended M).filled (ended M).memory.out ≡ (at_end (state_in M)).text
  unfolding ended
  ended-text = rw h (stored-text M (at_end (state_in M)))
