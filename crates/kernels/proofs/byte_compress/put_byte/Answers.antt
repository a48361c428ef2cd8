use Rattle.std.proofs.Common.{subst, sym}
use Rattle.kernels.proofs.Walked.{full_bits}
use Rattle.kernels.proofs.byte_compress.put_byte.Goals as goal

pub put_run-requires-clause-able : goal.put_run-requires-clause-able
put_run-requires-clause-able g c = subst (g.P.Target.can c.args.target.now) (full_bits 8 c.args.byte c.args.base c.if-byte-eq255.true) c.requires.able

pub returns-then-byte-eq255 : goal.returns-then-byte-eq255
returns-then-byte-eq255 g c = subst (λ ps. g.P.Target.took c.args.target.now ps c.put_run.new.self) (sym (full_bits 8 c.args.byte c.args.base c.if-byte-eq255.true)) c.put_run.ensures
