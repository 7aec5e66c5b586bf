use Rattle.extplan_reply.proofs.Replying.{line_replied, end-replied, asked_lying, asked_replied}
use Rattle.extplan_reply.proofs.answer.Goals as goal

pub returns-in_err-read-clause-replied : goal.returns-in_err-read-clause-replied
returns-in_err-read-clause-replied c = let e = c.in_err-read.ensures.reads in line_replied _ _ _ c.in_err-read.field-0.0 c.from_residual.ensures.1 e.0 e.1

pub returns-in_err-request-clause-replied : goal.returns-in_err-request-clause-replied
returns-in_err-request-clause-replied c = let e = c.in_err-request.ensures in
    end-replied _ _ _ c.in_err-request.field-0.0 c.from_residual-in_err-request.ensures.1 _ c.in_ok-read.ensures.reads.numbers e.0 e.1

pub operate-requires : goal.operate-requires
operate-requires c = asked_lying _ c.requires.input_len_bound _ c.in_ok-read.read _ c.requires.roomy c.in_ok-read.ensures.reads _ c.in_ok-request.ensures.0

pub returns-clause-replied : goal.returns-clause-replied
returns-clause-replied c = asked_replied _ c.requires.input_len_bound _ c.in_ok-read.read _ c.requires.roomy c.in_ok-read.ensures.reads _ c.in_ok-request.ensures.0 _ _ _ c.in_ok-request.ensures.1 c.requires.spacious.ample c.operate.ensures.met
