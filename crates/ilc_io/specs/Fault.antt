use Rattle.ilc_io.specs.declared.fault.IoFault.{IoFault}
use Rattle.ilc_io.specs.declared.fault.IoFault.TheVariants.{Failed, Memory}
use Rattle.ilc_io.specs.declared.fault.FileFault.{FileFault}
use Rattle.ilc_io.specs.declared.fault.FileFault.TheVariants.{Failed as FileFailed, Memory as FileMemory}

-- what a fault of one call is called where a whole file was asked for
abbrev pub file_fault : IoFault → FileFault
file_fault Failed = FileFailed
file_fault Memory = FileMemory
