-- The value that is compared.
use Rattle.semantics.specs.Values.{Value, number, prefix}
use Rattle.compare.specs.declared.plain.Plain.{Plain}
use Rattle.compare.specs.declared.plain.Plain.TheVariants.{Number, Digits}

abbrev pub plain_of : Plain → Value
plain_of (Number n) = number n
plain_of (Digits ds) = prefix ds.now
