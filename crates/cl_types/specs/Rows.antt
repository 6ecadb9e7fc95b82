-- `Vec` as the logic holds it, for the clauses on what a `&mut` lends.
use Rattle.std.specs.Borrow.{RattleType, u8}
use Rattle.std.specs.contracts.alloc.Global as global
use Rattle.std.specs.contracts.vec.Vec as vec
use Rattle.std.specs.contracts.impls.GlobalAllocator.TheImpl.{ghosts}

abbrev pub vec_row : RattleType → RattleType
vec_row item = vec.the_row item global.the_row ghosts

abbrev pub bytes_row : RattleType
bytes_row = vec_row u8
