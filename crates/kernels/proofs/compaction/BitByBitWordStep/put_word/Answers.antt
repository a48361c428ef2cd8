use Rattle.std.proofs.Common.{◌+◌, ◌^◌, ◌<◌, [], ◌∷◌, subst, sym, arith, rules}
use Rattle.kernels.specs.Masks.{set_bits}
use Rattle.kernels.proofs.Putting.{left_done, left_first, left_same, left_small, left_turn}
use Rattle.kernels.proofs.SetBits.{bits_next, bits_over}
use Rattle.kernels.proofs.Walked.{full_bits}
use Rattle.kernels.proofs.compaction.BitByBitWordStep.put_word.Goals as goal

pub put_run-requires-clause-able : goal.put_run-requires-clause-able
put_run-requires-clause-able g c = subst (g.P.Target.can c.args.target.now) (full_bits 64 c.args.word c.args.base c.if-word-eq18446744073709551615.true) c.requires.able

pub returns-then-word-eq18446744073709551615 : goal.returns-then-word-eq18446744073709551615
returns-then-word-eq18446744073709551615 g c = subst (λ ps. g.P.Target.took c.args.target.now ps c.put_run.new.self) (sym (full_bits 64 c.args.word c.args.base c.if-word-eq18446744073709551615.true)) c.put_run.ensures

pub overflow_add-base : goal.overflow_add-base
overflow_add-base g c =
    let h = (left_small c.requires.laws (left_same _ (bits_next c.loop-place.place-iterator.0 c.next.new.self.0 c.in-Some.place c.args.base c.in-Some.ensures.steps) c.loop-place.invariant.2)).0 in
    let fits : c.args.base + c.in-Some.place < 2 ^ 64 = omega arith in
    search rules

pub put-requires : goal.put-requires
put-requires g c = left_first c.requires.laws ((c.args.base + c.in-Some.place) ∷ []) (set_bits 64 c.next.new.self.0 c.args.base) (left_same _ (bits_next c.loop-place.place-iterator.0 c.next.new.self.0 c.in-Some.place c.args.base c.in-Some.ensures.steps) c.loop-place.invariant.2)

pub loop-place-preserved : goal.loop-place-preserved
loop-place-preserved g c = (tt, tt, left_turn c.requires.laws ((c.args.base + c.in-Some.place) ∷ []) (set_bits 64 c.next.new.self.0 c.args.base) c.put.new.self c.requires.able (left_same _ (bits_next c.loop-place.place-iterator.0 c.next.new.self.0 c.in-Some.place c.args.base c.in-Some.ensures.steps) c.loop-place.invariant.2) c.put.ensures)

pub returns-in-None : goal.returns-in-None
returns-in-None g c = left_done (left_same [] (bits_over c.loop-place.place-iterator.0 c.args.base c.in-None.ensures.steps.0) c.loop-place.invariant.2)
