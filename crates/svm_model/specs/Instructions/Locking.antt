-- The LOCK prefix (volume 3, 'Lock Prefix').
use Rattle.std.specs.Prelude.{◌&&◌, Bool, true, false, not}
use Rattle.svm_model.specs.Instructions.Operands.{is_memory}
use Rattle.svm_model.specs.Instructions.RowTable.{line_of}
use Rattle.svm_model.specs.Instructions.Sources.{destination}
use Rattle.svm_model.specs.declared.row_lines.LockUse.{LockUse}
use Rattle.svm_model.specs.declared.row_lines.LockUse.TheVariants as lock
use Rattle.svm_model.specs.declared.rows.Op.{Op}
use Rattle.svm_model.specs.declared.rows.Op.TheVariants as op
use Rattle.svm_model.specs.declared.rows.Row.{Row}

abbrev pub lock_stands : LockUse → Op → Bool
lock_stands lock.Refused o = false
lock_stands lock.Taken o = true
lock_stands lock.TakenButByCmp op.Cmp = false
lock_stands lock.TakenButByCmp o = true

-- a row that may have the prefix, where its destination is memory
unfoldable pub takes_lock : Row → Bool
takes_lock row = lock_stands (line_of row.form).lock row.op

-- the prefix stands where it may not: #UD
unfoldable pub lock_is_undefined : Row → Bool
lock_is_undefined row = row.lock && not (takes_lock row && is_memory (destination row))
