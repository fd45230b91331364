-- The VMCB: its fields, the rules of a legal one, intercepts, and the world switch.
pub mod Intercepts
pub mod Vmcb
pub mod VmcbLayout
pub mod VmcbRules
pub mod Vmexit
pub mod VmloadVmsave
pub mod Vmrun
