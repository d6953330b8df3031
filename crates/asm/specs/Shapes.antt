-- Which lines a part of the assembler takes.
use Rattle.std.specs.Prelude.{Bool, true, false}
use Rattle.asm.specs.declared.line.AssemblyLine.{AssemblyLine}
use Rattle.asm.specs.declared.line.AssemblyLine.TheVariants as lines

-- a jump, a call or an exit
abbrev pub is_jump : AssemblyLine → Bool
is_jump (lines.Jump target) = true
is_jump (lines.LongJump target) = true
is_jump (lines.Branch width test left right target) = true
is_jump (lines.Call helper) = true
is_jump lines.Exit = true
is_jump other = false

-- an assignment to a register
abbrev pub is_register : AssemblyLine → Bool
is_register (lines.Arithmetic width operation target source) = true
is_register (lines.Negate width target) = true
is_register (lines.SignExtend extension target source) = true
is_register (lines.Reorder order width target) = true
is_register other = false

-- a load from memory, or a store to it
abbrev pub is_access : AssemblyLine → Bool
is_access (lines.Load size target base offset) = true
is_access (lines.Store size base offset source) = true
is_access other = false
