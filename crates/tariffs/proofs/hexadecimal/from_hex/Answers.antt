use Rattle.std.specs.Str.Iter.{bytes_rest}
use Rattle.tariffs.proofs.Pairing.{decoded}
use Rattle.tariffs.proofs.hexadecimal.from_hex.Goals as goal

pub returns-clause-bytes : goal.returns-clause-bytes
returns-clause-bytes c =
    let left = bytes_rest c.loop-digit.digit-iterator in
    decoded c.args.text.now _ left _ c.loop-digit.invariant.decoded c.in-None.ensures.steps.0
