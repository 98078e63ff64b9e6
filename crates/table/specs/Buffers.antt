-- 01, Buffers and section records; Refusal numbers. The three lent buffers of a build, and what a call answers and leaves in them.
use Rattle.refusal.specs.Refusal.{Verdict}
use Rattle.std.specs.Prelude.{ℕ, List, Float, Err, Ok}
use Rattle.refusal.specs.declared.Refusal.{Refusal}

pub record Buffers : Type 0 where
  pub nodes : List Float
  pub tags : List ℕ
  pub slots : List Float

abbrev pub buffers : List Float → List ℕ → List Float → Buffers
buffers nodes tags slots = record { nodes = nodes; tags = tags; slots = slots }

-- what a call answers, and the buffers as it leaves them
pub record Outcome (A : Type 0) : Type 0 where
  pub answer : A
  pub buffers : Buffers

abbrev pub outcome : {A : Type 0} → A → List Float → List ℕ → List Float → Outcome A
outcome answer nodes tags slots = record { answer = answer; buffers = buffers nodes tags slots }

-- A refused call answers its refusal, and its buffers stay as they were.
abbrev pub judged : {A : Type 0} → Verdict → (Refusal → A) → Buffers → Outcome A → Outcome A
judged (Ok tt) refuse old new = new
judged (Err r) refuse old new = record { answer = refuse r; buffers = old }
