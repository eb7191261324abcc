use Rattle.binlog_bodies.specs.ShortBodies.{rotate_ends, intvar_ends, rand_ends, xid_ends}
use Rattle.binlog_bodies.proofs.laws.short_bodies.Goals as goal

pub returns-clause-rotate : goal.returns-clause-rotate
returns-clause-rotate c = rotate_ends

pub returns-clause-intvar : goal.returns-clause-intvar
returns-clause-intvar c = intvar_ends

pub returns-clause-rand : goal.returns-clause-rand
returns-clause-rand c = rand_ends

pub returns-clause-xid : goal.returns-clause-xid
returns-clause-xid c = xid_ends
