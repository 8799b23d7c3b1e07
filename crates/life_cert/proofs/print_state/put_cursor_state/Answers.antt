use Rattle.life_cert.proofs.print_state.put_cursor_state.Goals as goal

pub returns-in-Loose : goal.returns-in-Loose
returns-in-Loose g c = rw c.in-Loose.is c.put_loose.ensures
