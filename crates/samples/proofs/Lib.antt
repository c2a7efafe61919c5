mod AlikeWeights
mod Rereading
mod CompiledTables
