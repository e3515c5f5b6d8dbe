mod Handing
mod Known
mod Rising
mod Told
