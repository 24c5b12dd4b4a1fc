-- `apply_packet` meets its contract. Assumes nothing.
use Rattle.packet_apply.specs.Apply.{applying}
use Rattle.packet_apply.proofs.apply.apply_packet.Goals as goal

pub returns-in-Buffer : goal.returns-in-Buffer
returns-in-Buffer c = search applying

pub returns-in-Texture : goal.returns-in-Texture
returns-in-Texture c = search applying

pub returns-in-Destroy : goal.returns-in-Destroy
returns-in-Destroy c = search applying

pub returns-in-Dirty : goal.returns-in-Dirty
returns-in-Dirty c = search applying

pub returns-in-Copy : goal.returns-in-Copy
returns-in-Copy c = search applying

pub returns-in-Target : goal.returns-in-Target
returns-in-Target c = search applying

pub returns-in-Viewport : goal.returns-in-Viewport
returns-in-Viewport c = search applying

pub returns-in-Scissor : goal.returns-in-Scissor
returns-in-Scissor c = search applying

pub returns-in-Clear : goal.returns-in-Clear
returns-in-Clear c = search applying

pub returns-in-Export : goal.returns-in-Export
returns-in-Export c = search applying

pub returns-in-Import : goal.returns-in-Import
returns-in-Import c = search applying

pub returns-in-Release : goal.returns-in-Release
returns-in-Release c = search applying

pub returns-in-NotANumber : goal.returns-in-NotANumber
returns-in-NotANumber c = search applying

pub returns-in-Unknown : goal.returns-in-Unknown
returns-in-Unknown c = search applying
