-- Both theorems of correct rounding, of `sqrt` itself: they hold of whatever its contract, as the checker reads it, lets it return for a positive finite number.
use Prim.Native.Nat.{suc}
use mathlib.Core.Bool.{false}
use mathlib.Core.Path.{◌≡◌, sym, ap, subst, ◌∙◌}
use contract.Lifetimes
use borrow.Fn.World
use borrow.Fn.Kinds as K
use denote.Triple.Clauses
use lib.Dec.{T}
use lib.Ieee.{Float, fin, binary64, fits}
use Rattle.root.specs.Root.{root}
use Rattle.root.specs.Nearest.{Positive, AsDocumented, IsNearest}
use Rattle.root.proofs.Rounded.{as_documented, nearest}
use Rattle.root.specs.contracts.sqrt
use Rattle.root.proofs.sqrt.Kinds as kinds
use Rattle.root.proofs.sqrt.Reads as reads

module _ (a r : Float) (p : Positive a) where
  abbrev x : Float
  x = fin false (suc p.0) p.1

  fits_x : T (fits binary64 a) → T (fits binary64 x)
  fits_x h = subst (λ (y : Float). T (fits binary64 y)) (sym p.2) h

  -- what holds of the root holds of each r that is the root
  carried : (Law : Float → Float → Type 0) → r ≡ root a → Law x (root x) → Law a r
  carried Law e l = subst (λ (y : Float). Law y r) p.2 (subst (Law x) (sym (e ∙ ap root (sym p.2))) l)

-- a call of `sqrt` and its answer
module _
    (lifetimes : Lifetimes.Lfts 0)
    (args : World.ArgsD sqrt.signature lifetimes)
    (answer : World.ResD sqrt.signature lifetimes)
    (exit : Clauses.AtExit (K.ended_of 0 kinds.ps kinds.r) lifetimes)
    (allowed : reads.Post lifetimes args answer exit)
    (p : Positive args.0)
    (h : T (fits binary64 args.0)) where
  -- theorem 1
  pub returns_as_documented : AsDocumented args.0 answer
  returns_as_documented = carried args.0 answer p AsDocumented allowed (as_documented p.0 p.1 (fits_x args.0 answer p h))

  -- theorem 2
  pub returns_nearest : IsNearest args.0 answer
  returns_nearest = carried args.0 answer p IsNearest allowed (nearest p.0 p.1 (fits_x args.0 answer p h))
