-- Which acts change frames, objects and the end alone.
use Rattle.machine.specs.Program.{Instruction, Call, CallVirtual, LoadStatic, StoreStatic, LoadStaticAddress, LoadText}

-- neither a first use of a static field or a literal, nor a call, which may be of a native that prints
abbrev pub LeavesRest : Instruction → Type 0
LeavesRest (LoadStatic field) = ⊥
LeavesRest (StoreStatic field) = ⊥
LeavesRest (LoadStaticAddress field) = ⊥
LeavesRest (LoadText units) = ⊥
LeavesRest (Call method) = ⊥
LeavesRest (CallVirtual method) = ⊥
LeavesRest _ = Unit {0}
