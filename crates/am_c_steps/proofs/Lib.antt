mod CutLines
mod Layouts
mod PairsGiven
mod Rows
mod Sources
mod StructCopies
mod Wholes
