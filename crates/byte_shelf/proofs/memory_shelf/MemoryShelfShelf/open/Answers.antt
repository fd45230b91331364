use Rattle.byte_shelf.proofs.FirstFile.{found_file, missing_file}
use Rattle.byte_shelf.proofs.memory_shelf.MemoryShelfShelf.open.Goals as goal

pub returns-in-None-clause-missing : goal.returns-in-None-clause-missing
returns-in-None-clause-missing c = λ _.
    let none = missing_file c.self.inside.names.items c.self.inside.files.items c.args.name.now c.self.invariant (rw c.deref.ensures.value at c.in-None.ensures) in
    rw (← c.self.view_is) none

pub returns-in-Some-clause-first : goal.returns-in-Some-clause-first
returns-in-Some-clause-first c = λ _.
    let there = found_file c.self.inside.names.items c.self.inside.files.items c.args.name.now c.in-Some.index c.self.invariant (rw c.deref.ensures.value at c.in-Some.ensures) in
    rw (← c.self.view_is) there
