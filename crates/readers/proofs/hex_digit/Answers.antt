use Rattle.std.proofs.Common.{◌∙◌, sym, arith}
use Rattle.readers.proofs.ParseLaws.{nibble_low, nibble_high}
use Rattle.readers.proofs.hex_digit.Goals as goal

pub returns-in-48-to-57 : goal.returns-in-48-to-57
returns-in-48-to-57 c = let w = nibble_low c.args.c (omega arith) (omega arith) in (w.0, c.from.ensures ∙ sym w.1)

pub returns-in-97-to-102 : goal.returns-in-97-to-102
returns-in-97-to-102 c =
    let w = nibble_high c.args.c (omega arith) (omega arith) in (w.0, c.from-in-97-to-102.ensures ∙ sym w.1)
