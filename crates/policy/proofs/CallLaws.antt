-- A call that is not refused, from what its refusal says and what its steps leave. Assumes nothing.
use Rattle.std.specs.Prelude.{Ok}
use Rattle.std.specs.Prelude.{◌≡◌, Bool, true, false, ◌&&◌, List, [], ◌∷◌, ℕ, suc, ◌≤◌, ◌<◌, ◌+◌, ◌*◌, ◌^◌, eqb, length, get_or}
use Rattle.std.proofs.Math.Path.{refl, sym, ap, ◌∙◌}
use Rattle.std.proofs.Common.{subst, arith, leb-false, eqb-true}
use Rattle.std.proofs.Math.Bool.{cond}
use Rattle.std.proofs.Math.Option.{Option, none, some}
use Rattle.std.proofs.lemmas.Bool.{not-false}
use Rattle.counters.specs.declared.Counters as Code
use Rattle.counters.specs.Added.{added}
use Rattle.paper.specs.KeyedLaws.{or-false-right}
use Rattle.paper.specs.Cache.{Seat, Numbers, AddressRow, Box, Call, Outcome, Word, hit, miss, same_block, new_block, Counters, counted, one_if, is_read, is_hit}
use Rattle.paper.specs.Cache.{answer, cached, serve, read_as, row_with_block, write_through, write_back, write_invalidate}
use Rattle.paper.specs.Engine.{Fixed, fit, labelled}
use Rattle.tables.specs.Records.{bytes2}
use Rattle.paper.specs.Lent.{Lent, Ask, calling, refusal, call_of, box_in, lent_of, served, answered, block_after, part_after, wrong_buffers, wrong_block}
use Rattle.paper.specs.Lent.{lent_block, outside, address_of, counts, over}
use Rattle.paper.specs.RowBytes.{Bytes}
use Rattle.paper.specs.LentLaws.{Passes}
use Rattle.paper.proofs.LentLaws.{passes-sound, fit-whole}
use Rattle.paper.proofs.RefusalLaws.{exactly, served-is, refused-keeps}
use Rattle.paper.specs.CallLaws.{Fits, Served, outcome}
use Rattle.paper.proofs.CallLaws.{served-finds, not-over}
use Rattle.paper.specs.Layout.{addresses_of, blocks_of}
use Rattle.paper.proofs.LayoutLaws.{passes-addrs, passes-blocks, passes-flash, passes-disk}
use Rattle.parts.specs.declared.BoxRecord.{BoxRecord}
use Rattle.policy.specs.declared.Word as CodeWord
use Rattle.parts.specs.Rep.{numbers_of, Sized, Rep, with_held, engine}
use Rattle.step.specs.Steps.{Out4, out4, Sure}
use Rattle.serve.specs.declared.Served as CodeServed
use Rattle.serve.specs.declared.Write.{Write}
use Rattle.serve.specs.declared.Write.TheVariants.{Through, Back, Invalidate}
use Rattle.serve.specs.Calls.{Access, LentSound, Leaves, left, leaves, writing, is_yes, returned_or}
use Rattle.refusals.specs.Given.{counters_of, lent}
use Rattle.policy.specs.Contract.{word_of, Told, told, called, ask_of}
use Rattle.policy.specs.CallLaws.{access, address-fits, asks_write, block-fits, block_of, disk-fits, finds, finish, no_hit, read-says, rep, said-is, sized, sound, sure, write-says, yes_of}

-- a write, from what its steps leave
module _ (b : BoxRecord) (disk flash addrs blocks : List ℕ) (c : Code.Counters) (kind : Write) (a : ℕ) (l : List ℕ) (z : ℕ)
    (e : refusal (numbers_of b) (lent b disk flash addrs blocks (counters_of c)) (calling (ask_of kind a l z)) ≡ 0) where
  pub written : (w : CodeWord.Word) (r : CodeServed.Served) (disk' flash' addrs' blocks' : List ℕ)
      → left r disk' flash' addrs' blocks' l ≡ leaves b l (serve (engine b) (numbers_of b)
      (box_in (numbers_of b) (lent b disk flash addrs blocks (counters_of c))) (writing kind a (fit b.size l) (bytes2 z)))
      → word_of w ≡ cond r.yes same_block new_block
      → told (record {
        answer = Ok (record { word = w; flashed = r.flashed; primary = r.primary });
        box_record = with_held b r.held;
        counters = added c 0 0 r.flashed r.primary;
      }) disk' flash' addrs' blocks' (some l)
      ≡ called b (lent b disk flash addrs blocks (counters_of c)) (ask_of kind a l z)
  written w r disk' flash' addrs' blocks' x ew =
      let q = ask_of kind a l z in
      let k = counters_of c in
      let o = outcome (numbers_of b) (lent b disk flash addrs blocks k) q in
      let f = asks_write kind b.size a z l in
      let on : Call (Fixed b.size) → Outcome (Fixed 32) (Fixed b.size)
      = serve (engine b) (numbers_of b) (box_in (numbers_of b) (lent b disk flash addrs blocks k)) in
      let says : o.word ≡ cond (is_yes o.word) same_block new_block
      = subst (λ (u : Call (Fixed b.size)). (on u).word ≡ cond (is_yes (on u).word) same_block new_block) (sym f.call)
      (write-says (numbers_of b) (box_in (numbers_of b) (lent b disk flash addrs blocks k)) a kind (fit b.size l) (bytes2 z)) in
      let y : left r disk' flash' addrs' blocks' l ≡ leaves b l o = x ∙ ap (λ (u : Call (Fixed b.size)). leaves b l (on u)) (sym f.call) in
      finish b disk flash addrs blocks k q e w r.yes r.held r.flashed r.primary 0 0 c l disk' flash' addrs' blocks' l (some l) refl y
      (ew ∙ said-is o.word same_block new_block r.yes says (yes_of b l o y)) (sym (ap one_if f.no_read)) (no_hit o.word says)
      (f.kept o.block) (f.no_part o.block)
