use Rattle.std.proofs.Common.{◌≡◌, ◌<◌, ◌++◌, IfSome}
use Rattle.std.specs.List.{filter_map}
use Rattle.std.specs.Option.{option_to_list}
use Rattle.std.specs.Str.Iter.{bytes_rest}
use Rattle.tariffs.specs.Hexadecimal.{value_of}
use Rattle.tariffs.proofs.Pairing.{pairs, bytes_in}
use Rattle.tariffs.proofs.hexadecimal.from_hex.Given as goal

-- what is left of the text, behind the digit that waits for a second one, gives the bytes that are missing
abbrev pub invariant-loop-digit : goal.invariant-loop-digit
invariant-loop-digit l = record {
  decoded : l.bytes.items ++ pairs (option_to_list l.high ++ filter_map value_of (bytes_rest l.digit-iterator)) ≡ bytes_in l.text;
  small : IfSome l.high (λ high. high < 16);
}
