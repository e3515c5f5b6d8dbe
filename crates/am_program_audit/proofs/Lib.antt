mod TextAudits
mod RecordLines
mod WholeLines
