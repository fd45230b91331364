use Rattle.std.proofs.Common.{length}
use Rattle.vmcb_layout.proofs.access.+put_fields.Given as goal

-- the fields that are left
abbrev pub decreases-put_fields : goal.decreases-put_fields
decreases-put_fields l = length l.list.now
