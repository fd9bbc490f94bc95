-- Each name is read, tested and marked. Assumes nothing.
use Rattle.std.specs.Prelude.{◌≡◌, true, ℕ, ◌≤◌, length, drop}
use Rattle.std.proofs.Common.{rules, arith, subst, sym, ◌∙◌, refl, drop_of_length-le}
use Rattle.std.proofs.lemmas.Bool.{false≢true}
use borrow.Author.Tests.{eqb-true, eqb-false}
use Rattle.tables.specs.Bits.{bit_at}
use Rattle.tables.specs.Find.{all}
use Rattle.tables.specs.Sound.{distinct}
use Rattle.tables.specs.SoundLaws.{Marked, marked-none, marked}
use Rattle.arc.specs.ArcLent.{words}
use Rattle.arc.proofs.ArcLentLaws.{length-words-in}
use Rattle.arclists.specs.Names.{fine}
use Rattle.arclists.specs.NameLaws.{too-big, named-twice, more-fine, name-is, read-name}
use Rattle.arclists.proofs.names.names_marked.Goals as goal

pub loop-k-init : goal.loop-k-init
unfolding fine all distinct
loop-k-init c =
    let a = c.args in
    let ws = words a.n a.lists.now in
    let h : length ws ≤ a.n = omega (arith, length-words-in a.n a.lists.now) in
    record {
      bytes = search rules;
      fine = rw (drop_of_length-le ws h) refl;
      marked = marked-none (bit_at a.seen.now) 65536 ws a.n h c.requires.by_index;
    }

pub returns-then-x-ge65536 : goal.returns-then-x-ge65536
returns-then-x-ge65536 c =
    let a = c.args in
    let k = c.loop-k.k in
    let b : k ≤ length (words a.n a.lists.now) = omega (arith, length-words-in a.n a.lists.now) in
    record {
      value = too-big (words a.n a.lists.now) k c.word_at-x.result c.loop-k-test.true b
          (name-is a.n a.lists.now k c.word_at-x.result c.loop-k-test.true (omega arith) c.word_at-x.ensures) c.if-x-ge65536.true;
      marked = (λ e. absurd (false≢true e));
      seen_len = c.loop-k.invariant.bytes;
    }

pub returns-then-not-set_bit : goal.returns-then-not-set_bit
returns-then-not-set_bit c =
    let a = c.args in
    let i = c.loop-k.invariant in
    let r = read-name a.n a.lists.now c.loop-k.k c.word_at-x.result c.loop-k-test.true (omega arith) c.word_at-x.ensures (omega arith) in
    record {
      value = named-twice r (bit_at c.loop-k.seen) i.marked (eqb-false _ 0 (sym c.set_bit.ensures.value ∙ c.if-not-set_bit.true));
      marked = (λ e. absurd (false≢true e));
      seen_len = c.set_bit.ensures.seen_len_unchanged ∙ i.bytes;
    }

pub loop-k-preserved : goal.loop-k-preserved
loop-k-preserved c =
    let a = c.args in
    let i = c.loop-k.invariant in
    let y = c.if-not-set_bit.false in
    let r = read-name a.n a.lists.now c.loop-k.k c.word_at-x.result c.loop-k-test.true (omega arith) c.word_at-x.ensures (omega arith) in
    record {
      bytes = c.set_bit.ensures.seen_len_unchanged ∙ i.bytes;
      fine = more-fine r (bit_at c.loop-k.seen) i.marked (eqb-true _ 0 (sym c.set_bit.ensures.value ∙ y)) i.fine;
      marked = marked r (bit_at c.loop-k.seen) i.marked (bit_at c.set_bit.new.seen) (λ z q. c.set_bit.ensures.y_after y z);
    }

pub returns : goal.returns
returns c =
    let a = c.args in
    let l = c.loop-k in
    let e : l.k ≡ 0 = omega arith in
    let ws = words a.n a.lists.now in
    record {
      value = sym (subst (λ (k : ℕ). fine (drop k ws) ≡ true) e l.invariant.fine);
      marked = (λ q. subst (λ (k : ℕ). Marked (bit_at l.seen) 65536 (drop k ws)) e l.invariant.marked);
      seen_len = l.invariant.bytes;
    }
