mod EdgeLaws
mod PromiseLaws
mod CauseLaws
mod FormatLaws
mod ImageLaws
mod SectorLaws
mod CheckLaws
mod RunLaws
