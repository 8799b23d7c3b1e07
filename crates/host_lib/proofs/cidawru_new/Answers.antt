use Rattle.host_lib.proofs.Anew.{refused_anew}
use Rattle.host_lib.proofs.cidawru_new.Goals as goal

pub returns-in-Err-clause-makes : goal.returns-in-Err-clause-makes
returns-in-Err-clause-makes c =
    refused_anew c.args.texts.now c.args.lengths.now c.args.words.now c.args.word_lengths.now c.args.budget c.args.handle.now.held c.args.handle.now.slot.value
    c.in-Err.why c.why.result c.message.result.now c.args.buffer.now c.put_message.new.buffer c.if-handle.false c.requires c.in-Err.ensures.refused c.why.ensures
    c.message.ensures c.put_message.ensures
