-- 000, ConvexMonotone. 01, Queries, settings and growth: the default, which 02, K6 names the gas default, beside its own. 02, K3: the mode of the split is
-- part of the settings. The safe mode is our own.
use Rattle.std.specs.Prelude.{Bool, true, false, ◌&&◌, Float}
use Rattle.numbers.specs.Words.{three_tenths, seven_tenths}
use Rattle.table.specs.declared.method.ConvexMonotone.{ConvexMonotone}
use Rattle.table.specs.declared.method.Split.{Split}
use Rattle.table.specs.declared.method.Split.TheVariants as split

abbrev pub new : Float → Float → Bool → ConvexMonotone
new q m positive = record { quadraticity = q; monotonicity = m; force_positive = positive; split = split.Original }

-- the same settings in this mode
abbrev pub with_split : Split → ConvexMonotone → ConvexMonotone
with_split mode m =
    record { quadraticity = m.quadraticity; monotonicity = m.monotonicity; force_positive = m.force_positive; split = mode }

abbrev pub is_safe : Split → Bool
is_safe split.Original = false
is_safe split.Careful = false
is_safe split.Safe = true

-- the safe mode, which asks for positivity too
abbrev pub safely : ConvexMonotone → Bool
safely m = is_safe m.split && m.force_positive

-- 02, K6: what holds where no setting is named
abbrev pub defaults : ConvexMonotone
defaults = new three_tenths seven_tenths false

-- 02, K6: the default of 01 and of 000, under a name of its own
abbrev pub gas : ConvexMonotone
gas = new three_tenths seven_tenths true
