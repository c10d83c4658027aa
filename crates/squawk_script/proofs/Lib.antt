pub mod NumberSteps
pub mod RecordSteps
pub mod ScriptSteps
pub mod RecordLaws
pub mod RecordForm
pub mod FormRecord
pub mod FormLaws
pub mod Utf8Laws
