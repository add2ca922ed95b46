use Rattle.std.proofs.Common.{◌≡◌, ◌-◌, length}
use Rattle.treefiles.proofs.Filled.{Fills}
use Rattle.treefiles.proofs.load.Memories.fill.Given as goal

abbrev pub invariant-loop-item : goal.invariant-loop-item
invariant-loop-item l = record {
  fills : Fills l.file l.loader l.initial.self.lists.now l.self.lists.now l.initial.self.entries.now l.self.entries.now;
  same_lists : l.self.lists.ghost_name ≡ l.initial.self.lists.ghost_name;
  same_entries : l.self.entries.ghost_name ≡ l.initial.self.entries.ghost_name;
}

abbrev pub decreases-loop-item : goal.decreases-loop-item
decreases-loop-item l = length l.file - l.loader.at
