-- The layout of the virtual machine control block: where its fields lie, and which groups they are in (volume 2, 'VMCB
-- Layout', 'VMCB Clean Bits').
use Rattle.std.specs.Prelude.{ℕ, ◌-◌, ◌==◌, List, [], ◌∷◌, ◌++◌, if◌then◌else◌, slice_index_or}
use Rattle.svm_model.specs.declared.vmcbs.Field.{Field}
use Rattle.svm_model.specs.declared.vmcbs.Field.TheVariants as f
use Rattle.svm_model.specs.declared.vmcbs.FieldPlace.{FieldPlace}
use Rattle.svm_model.specs.declared.vmcbs.TheConstants.{LAYOUT}

-- the places of all fields, in the order of their numbers
unfoldable pub layout : List FieldPlace
layout = LAYOUT

-- the number of a field in the layout
unfoldable pub number_of : Field → ℕ
number_of f.CrIntercepts = 0
number_of f.DrIntercepts = 1
number_of f.ExceptionIntercepts = 2
number_of f.InterceptWordC = 3
number_of f.InterceptWord10 = 4
number_of f.IopmBase = 5
number_of f.MsrpmBase = 6
number_of f.TscOffset = 7
number_of f.Asid = 8
number_of f.TlbControl = 9
number_of f.VirtualInterrupt = 10
number_of f.Shadow = 11
number_of f.ExitCode = 12
number_of f.ExitInfo1 = 13
number_of f.ExitInfo2 = 14
number_of f.ExitIntInfo = 15
number_of f.NpEnable = 16
number_of f.AvicBar = 17
number_of f.EventInj = 18
number_of f.NCr3 = 19
number_of f.Clean = 20
number_of f.NextRip = 21
number_of f.BackingPage = 22
number_of f.LogicalTable = 23
number_of f.PhysicalTable = 24
number_of f.EsSelector = 25
number_of f.EsAttributes = 26
number_of f.EsLimit = 27
number_of f.EsBase = 28
number_of f.CsSelector = 29
number_of f.CsAttributes = 30
number_of f.CsLimit = 31
number_of f.CsBase = 32
number_of f.SsSelector = 33
number_of f.SsAttributes = 34
number_of f.SsLimit = 35
number_of f.SsBase = 36
number_of f.DsSelector = 37
number_of f.DsAttributes = 38
number_of f.DsLimit = 39
number_of f.DsBase = 40
number_of f.FsSelector = 41
number_of f.FsAttributes = 42
number_of f.FsLimit = 43
number_of f.FsBase = 44
number_of f.GsSelector = 45
number_of f.GsAttributes = 46
number_of f.GsLimit = 47
number_of f.GsBase = 48
number_of f.GdtrSelector = 49
number_of f.GdtrAttributes = 50
number_of f.GdtrLimit = 51
number_of f.GdtrBase = 52
number_of f.LdtrSelector = 53
number_of f.LdtrAttributes = 54
number_of f.LdtrLimit = 55
number_of f.LdtrBase = 56
number_of f.IdtrSelector = 57
number_of f.IdtrAttributes = 58
number_of f.IdtrLimit = 59
number_of f.IdtrBase = 60
number_of f.TrSelector = 61
number_of f.TrAttributes = 62
number_of f.TrLimit = 63
number_of f.TrBase = 64
number_of f.Cpl = 65
number_of f.Efer = 66
number_of f.Cr4 = 67
number_of f.Cr3 = 68
number_of f.Cr0 = 69
number_of f.Dr7 = 70
number_of f.Dr6 = 71
number_of f.Rflags = 72
number_of f.Rip = 73
number_of f.Rsp = 74
number_of f.Rax = 75
number_of f.Star = 76
number_of f.Lstar = 77
number_of f.Cstar = 78
number_of f.Sfmask = 79
number_of f.KernelGsBase = 80
number_of f.SysenterCs = 81
number_of f.SysenterEsp = 82
number_of f.SysenterEip = 83
number_of f.Cr2 = 84
number_of f.GPat = 85

-- the place of the field of this number
unfoldable pub place_at : ℕ → FieldPlace
place_at number = slice_index_or layout number (record { field = f.CrIntercepts; offset = 0; width = 0 })

abbrev pub place_of : Field → FieldPlace
place_of field = place_at (number_of field)

-- The groups of clean bits 0 to 11.

-- the four fields of a segment or table register
abbrev pub es_fields : List Field
es_fields = f.EsSelector ∷ f.EsAttributes ∷ f.EsLimit ∷ f.EsBase ∷ []

abbrev pub cs_fields : List Field
cs_fields = f.CsSelector ∷ f.CsAttributes ∷ f.CsLimit ∷ f.CsBase ∷ []

abbrev pub ss_fields : List Field
ss_fields = f.SsSelector ∷ f.SsAttributes ∷ f.SsLimit ∷ f.SsBase ∷ []

abbrev pub ds_fields : List Field
ds_fields = f.DsSelector ∷ f.DsAttributes ∷ f.DsLimit ∷ f.DsBase ∷ []

abbrev pub fs_fields : List Field
fs_fields = f.FsSelector ∷ f.FsAttributes ∷ f.FsLimit ∷ f.FsBase ∷ []

abbrev pub gs_fields : List Field
gs_fields = f.GsSelector ∷ f.GsAttributes ∷ f.GsLimit ∷ f.GsBase ∷ []

abbrev pub gdtr_fields : List Field
gdtr_fields = f.GdtrSelector ∷ f.GdtrAttributes ∷ f.GdtrLimit ∷ f.GdtrBase ∷ []

abbrev pub ldtr_fields : List Field
ldtr_fields = f.LdtrSelector ∷ f.LdtrAttributes ∷ f.LdtrLimit ∷ f.LdtrBase ∷ []

abbrev pub idtr_fields : List Field
idtr_fields = f.IdtrSelector ∷ f.IdtrAttributes ∷ f.IdtrLimit ∷ f.IdtrBase ∷ []

abbrev pub tr_fields : List Field
tr_fields = f.TrSelector ∷ f.TrAttributes ∷ f.TrLimit ∷ f.TrBase ∷ []

-- the fields of the groups, in their order
abbrev pub groups : List (List Field)
groups =
    -- 0 intercepts and TSC_OFFSET
    (f.CrIntercepts ∷ f.DrIntercepts ∷ f.ExceptionIntercepts ∷ f.InterceptWordC ∷ f.InterceptWord10 ∷ f.TscOffset ∷ []) ∷
    -- 1 permission maps
    (f.IopmBase ∷ f.MsrpmBase ∷ []) ∷
    -- 2 ASID
    (f.Asid ∷ []) ∷
    -- 3 virtual interrupt
    (f.VirtualInterrupt ∷ []) ∷
    -- 4 nested paging
    (f.NpEnable ∷ f.NCr3 ∷ f.GPat ∷ []) ∷
    -- 5 control registers
    (f.Cr0 ∷ f.Cr3 ∷ f.Cr4 ∷ f.Efer ∷ []) ∷
    -- 6 debug registers
    (f.Dr6 ∷ f.Dr7 ∷ []) ∷
    -- 7 descriptor tables
    (gdtr_fields ++ idtr_fields) ∷
    -- 8 segments
    (es_fields ++ cs_fields ++ ss_fields ++ ds_fields ++ f.Cpl ∷ []) ∷
    -- 9 CR2
    (f.Cr2 ∷ []) ∷
    -- 10 none here
    [] ∷
    -- 11 AVIC, of the monitor alone
    (f.AvicBar ∷ f.BackingPage ∷ f.LogicalTable ∷ f.PhysicalTable ∷ []) ∷
    []

-- the fields of a group
abbrev pub nth_group : List (List Field) → ℕ → List Field
nth_group [] n = []
nth_group (g ∷ groups) n = if n == 0 then g else nth_group groups (n - 1)

unfoldable pub group_fields : ℕ → List Field
group_fields group = nth_group groups group
