use Rattle.byte_text.proofs.ListLaws.{front_of_two}
use Rattle.byte_text.proofs.quoted.extend_front.Goals as goal

pub returns-clause-front : goal.returns-clause-front
returns-clause-front c =
    front_of_two c.args.out.now.items _ _ c.extend_from_slice.new.self.items c.extend_from_slice-2.new.self.items c.extend_escaped.new.out.items
    c.in_ok-extend_from_slice.ensures.items c.in_ok-extend_from_slice-2.ensures.items c.extend_escaped.ensures.front
