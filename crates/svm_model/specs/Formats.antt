-- Images, scripts, printed text, the text of a trace, and that of a verdict.
pub mod Image
pub mod ImageBytes
pub mod ImageFields
pub mod ImageVcpus
pub mod LawfulImages
pub mod Script
pub mod ScriptLines
pub mod ScriptWords
pub mod Text
pub mod Trace
pub mod VerdictText
