-- The places of memory that the lists of a table take, and the question whether the memories have them.
use Rattle.std.specs.Prelude.{ℕ, ◌+◌, ◌-◌, ◌^◌, ◌<◌, ◌≤◌, replicate, Option, nat_le, slice_index_or}
use Rattle.std.proofs.Common.{lit≤}
use Rattle.faults.specs.Refusals.{fault}
use Rattle.faults.specs.declared.Fault.{Fault}
use Rattle.faults.specs.declared.Reason.TheVariants.{IndexMemoryShort}
use Rattle.register.specs.Limits.{most_lists}
use Rattle.register.specs.Questions.{ask, or_else, Sizes}
use Rattle.plan.specs.Columns.{no_run}
use Rattle.plan.specs.declared.room.Memory.{Memory}
use Rattle.plan.specs.declared.room.Memory.TheVariants.{Keys, Rows, Payloads}
use Rattle.plan.specs.declared.table.ListRun.{ListRun}
use Rattle.plan.specs.declared.table.ListTable.{ListTable}

-- the table of no lists
abbrev pub no_table : ListTable
no_table = record { len = 0; runs = replicate most_lists no_run; few = lit≤ tt }

-- the run of the last list ends where all lists end
abbrev pub last_run : ListTable → ListRun
last_run table = slice_index_or table.runs (table.len - 1) no_run

abbrev pub keys_taken : ListTable → ℕ
keys_taken table = (last_run table).start + (last_run table).length

abbrev pub payloads_taken : ListTable → ℕ
payloads_taken table = (last_run table).first + (last_run table).count

-- there are lists, and all places can be counted
pub record Countable (table : ListTable) : Type 0 where
  pub some : 1 ≤ table.len
  pub few : table.len ≤ most_lists
  pub keys_fit : keys_taken table + table.len < 2 ^ 64
  pub payloads_fit : payloads_taken table < 2 ^ 64

abbrev pub number_of : Memory → ℕ
number_of Keys = 1
number_of Rows = 2
number_of Payloads = 3

-- has a memory places enough
abbrev pub room_fault : (memory needed places : ℕ) → Option Fault
room_fault memory needed places = ask (nat_le needed places) (fault IndexMemoryShort memory needed)

-- key memory, then row memory, then payload memory
abbrev pub table_fault : ListTable → Sizes → Option Fault
table_fault table sizes =
    or_else (room_fault 1 (keys_taken table) sizes.keys)
    (or_else (room_fault 2 (keys_taken table + table.len) sizes.rows)
    (room_fault 3 (payloads_taken table) sizes.payloads))
