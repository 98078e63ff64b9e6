-- 02, K1: how far strips between adjoining places telescope.
use Prim.Native.Nat.{ℕ}
use mathlib.Core.Bool.{true}
use mathlib.Core.List.{List}
use mathlib.Core.Path.{◌≡◌, refl, ap, ◌∙◌}
use lib.Ieee.{Float, add, sub, mul, div, lt, le, of_bits}
use lib.ListN.{length}
use Rattle.numbers.specs.Every.{all_below}
use Rattle.numbers.specs.Words.{◌⊕◌, ◌⊖◌, ◌⊘◌, finite}
use Rattle.numbers.proofs.Monotone.{difference_mono}
use Rattle.numbers.proofs.Ratios.{neg_finite}
use Rattle.numbers.proofs.Sums.{difference_anti}
use Rattle.refusal.specs.Refusal.{first}
use Rattle.table.specs.Check.{all_finite, rising}
use Rattle.table.specs.Table.{at}
use Rattle.column.specs.Between.{between_tests, between_by, between_at}
use Rattle.column.specs.Telescope.{amount, edges, totals}

-- What holds. A strip reads the entries at its own two places, so adjoining strips share one, and nothing that lies between two places can change their strip.
pub only_the_ends : (x c d : List Float) (i j : ℕ) → length c ≡ length d → at c i ≡ at d i → at c j ≡ at d j → between_at x c i j ≡ between_at x d i j
only_the_ends x c d i j n e f =
    ap (λ (m : ℕ). between_by (first (between_tests x m i j)) ((at c j ⊖ at c i) ⊘ (at x j ⊖ at x i))) n
    ∙ ap (λ (q : Float). between_by (first (between_tests x (length d) i j)) ((q ⊖ at c i) ⊘ (at x j ⊖ at x i))) f
    ∙ ap (λ (p : Float). between_by (first (between_tests x (length d) i j)) ((at d j ⊖ p) ⊘ (at x j ⊖ at x i))) e

-- Where the totals do not fall, neither part holds more than the whole, rounded as they are.
pub part_of_whole : (p q r : Float) → finite p ≡ true → finite r ≡ true → le p q ≡ true → le q r ≡ true →
    (le (q ⊖ p) (r ⊖ p) ≡ true) × (le (r ⊖ q) (r ⊖ p) ≡ true)
part_of_whole p q r f g h k = (difference_mono q r p (neg_finite p f) k, difference_anti r p q g h)

-- What does not hold: on two days with the totals 0, 0.2 and 0.9 at their edges the days' amounts come to less than the amount of both.
pub not_the_whole : lt (amount edges totals 0 1 ⊕ amount edges totals 1 2) (amount edges totals 0 2) ≡ true
unfolding of_bits add sub mul div lt le finite all_finite rising all_below
not_the_whole = refl
