use Rattle.std.proofs.Common.{sym, ap, arith}
use Rattle.name_table.proofs.Written.{written_whole}
use Rattle.name_table.proofs.hashing.NameHasherHasher.write_u64.Goals as goal

pub returns : goal.returns
returns c = ap (λ n. record { name = n }) (sym (written_whole c.args.self.now.name c.args.name (omega (arith, c.ranges.name.fits))))
