-- What follows in some and in all of several interpretations: in the high word the atoms that some of them has, in the low word those that all have. Assumes nothing.
use Rattle.std.specs.Prelude.{◌^◌}
use Rattle.std.specs.Int.Bits.{bit_or, bit_and}
use Rattle.values.specs.declared.Value.{Value}
use Rattle.values.specs.Values.{Values, no_value}

-- of one interpretation both words are its mask
unfoldable pub consequences : Values Value
consequences = record {
  unit = no_value;
  either = λ a b. record { high = bit_or a.high b.high; low = bit_and a.low b.low };
  together = λ a b. record { high = bit_or a.high b.high; low = bit_or a.low b.low };
  present = λ c. record { high = 2 ^ c; low = 2 ^ c };
  absent = λ c. no_value;
}
